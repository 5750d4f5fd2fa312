pub mod Ahead
pub mod OneEvent
pub mod EventLines
pub mod Finishing
pub mod GenWords
pub mod Guests
pub mod Journal
mod Commands
pub mod Left
pub mod CourseRuns
pub mod Loops
pub mod Making
pub mod ManyTurns
pub mod Memories
pub mod Saying
pub mod Streaming
pub mod Summed
pub mod WholeScript
pub mod Words
mod Stopping
