pub mod Number
pub mod Grammar
pub mod Script
pub mod Report
pub mod Guest
