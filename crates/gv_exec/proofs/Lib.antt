pub mod Pairs
pub mod RowLoops
