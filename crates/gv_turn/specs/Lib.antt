pub mod Owned
pub mod Same
pub mod Work
pub mod Keeping
pub mod Laws
