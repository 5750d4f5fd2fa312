pub mod Course
pub mod Machine
pub mod Report
pub mod Solo
pub mod Laws
