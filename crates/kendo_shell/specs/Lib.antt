pub mod Answers
pub mod Traces
pub mod Streams
