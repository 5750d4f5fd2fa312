pub mod Dwords
pub mod Saving
pub mod Filling
