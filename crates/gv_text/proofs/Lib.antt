pub mod LineParts
pub mod Digits
pub mod ValueSteps
pub mod TooManyWords
pub mod Hex
pub mod Joined
pub mod WordBytes
pub mod ReportLines
