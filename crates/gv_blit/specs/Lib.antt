pub mod Short
pub mod Left
