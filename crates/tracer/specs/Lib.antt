pub mod Room
pub mod Trace
