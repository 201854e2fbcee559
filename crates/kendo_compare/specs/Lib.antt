pub mod Comparing
pub mod Traces
