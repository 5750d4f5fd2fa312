pub mod Causes
pub mod SourceState
pub mod SinkState
pub mod StdSource
pub mod StdSink
pub mod Attempt
