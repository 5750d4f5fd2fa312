pub mod Shadow
pub mod Counts
pub mod Shadows
