pub mod Passes
pub mod Turns
