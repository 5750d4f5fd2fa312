pub mod Entries
pub mod Linked
pub mod Mirror
pub mod Pins
pub mod Table
