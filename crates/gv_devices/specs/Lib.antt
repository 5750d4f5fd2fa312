pub mod Counting
pub mod Failing
pub mod Laws
pub mod Plan
