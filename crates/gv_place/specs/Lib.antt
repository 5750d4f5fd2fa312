pub mod Place
pub mod Seen
pub mod Steps
pub mod Laws
pub mod Placed
