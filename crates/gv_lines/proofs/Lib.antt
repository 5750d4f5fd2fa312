pub mod Passing
pub mod Summing
pub mod Buffer
pub mod Lines
pub mod ComingIn
pub mod Handing
pub mod Found
