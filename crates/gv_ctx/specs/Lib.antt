pub mod Descriptor
pub mod Image
pub mod Saved
