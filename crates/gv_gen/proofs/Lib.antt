pub mod Accepted
pub mod Rounds
pub mod FirstLine
