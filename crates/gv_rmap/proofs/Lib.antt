pub mod Frames
pub mod Order
pub mod Sides
mod Heights
