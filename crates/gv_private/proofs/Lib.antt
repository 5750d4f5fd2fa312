pub mod Granted
pub mod Effects
pub mod Keeps
pub mod Still
pub mod Stays
pub mod Failsafe
pub mod Elements
pub mod Tables
pub mod Untouched
pub mod Unnamed
pub mod Told
pub mod Completion
mod Examples
