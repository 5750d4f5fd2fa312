pub mod Starts
pub mod Keeping
pub mod Simulation
pub mod Alignment
pub mod Local
pub mod Lengths
