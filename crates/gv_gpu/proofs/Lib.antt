pub mod Changed
pub mod Changes
pub mod Effects
pub mod Examples
pub mod Guests
pub mod Parts
pub mod Seen
pub mod Steps
