pub mod Items
pub mod Fetch
pub mod Left
pub mod Flat
pub mod Owned
pub mod Space
pub mod Laws
