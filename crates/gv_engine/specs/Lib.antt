pub mod Held
pub mod Laws
pub mod Pages
pub mod Rows
pub mod Running
pub mod Soft
pub mod Walk
pub mod Whole
