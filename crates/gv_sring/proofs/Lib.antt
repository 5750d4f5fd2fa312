pub mod Packed
pub mod PlacedLemmas
pub mod Slots
pub mod Named
pub mod Windows
pub mod WindowReads
pub mod Built
