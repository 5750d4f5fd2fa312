pub mod Headline
pub mod Made
pub mod Status
pub mod Streamed
pub mod Tied
pub mod Lines
