pub mod Added
pub mod Kept
pub mod Moved
pub mod Written
