pub mod Functions
pub mod Calls
