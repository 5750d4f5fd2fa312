pub mod Bytes
pub mod Image
pub mod Accepted
pub mod Laws
