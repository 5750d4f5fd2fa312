pub mod Task
pub mod Names
