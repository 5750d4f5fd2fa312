pub mod Irq
pub mod Fields
