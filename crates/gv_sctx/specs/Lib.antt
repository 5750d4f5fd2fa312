pub mod Image
pub mod Context
