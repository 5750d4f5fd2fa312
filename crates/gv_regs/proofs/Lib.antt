pub mod Finds
pub mod Blocks
pub mod Found
pub mod Maps
pub mod MaskedBits
