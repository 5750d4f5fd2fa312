pub mod Touches
pub mod Asked
pub mod Granted
pub mod Steps
pub mod Whole
pub mod Unread
pub mod Twin
mod Examples
