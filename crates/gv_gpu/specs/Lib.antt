pub mod Change
pub mod Context
pub mod Device
pub mod Part
pub mod Physical
pub mod Step
