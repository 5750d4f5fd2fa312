pub mod Walk
pub mod Totals
pub mod Live
pub mod Levels
pub mod Keys
pub mod Shadows
