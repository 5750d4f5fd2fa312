pub mod Status
pub mod Slots
pub mod Elements
