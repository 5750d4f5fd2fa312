pub mod Faults
pub mod FaultsContext
pub mod FaultsStep
