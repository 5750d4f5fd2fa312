pub mod Coming
pub mod First
pub mod Outlet
pub mod Reader
pub mod Summary
pub mod Writer
