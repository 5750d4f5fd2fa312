pub mod Touched
pub mod Asked
pub mod Exact
pub mod Laws
