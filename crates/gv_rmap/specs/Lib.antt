pub mod Leaves
pub mod Chains
pub mod Tree
pub mod Inside
