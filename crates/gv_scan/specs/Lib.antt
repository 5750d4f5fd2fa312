pub mod Layout
pub mod Scan
pub mod Lay
pub mod Listed
