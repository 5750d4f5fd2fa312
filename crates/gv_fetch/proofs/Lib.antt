pub mod Reading
pub mod Readdressed
pub mod Forms
pub mod Ends
pub mod Moving
pub mod Owned
pub mod Depth
pub mod Fetched
pub mod FrontCommands
pub mod OneSpelling
pub mod Going
pub mod Sizes
mod Examples
