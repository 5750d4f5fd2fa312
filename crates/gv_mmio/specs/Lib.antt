pub mod Port
pub mod Ports
pub mod Mmio
