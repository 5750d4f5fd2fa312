pub mod Table
pub mod Registers
pub mod Decoded
pub mod Fields
