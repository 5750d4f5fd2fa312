pub mod Lookups
pub mod Positions
pub mod NodeOf
