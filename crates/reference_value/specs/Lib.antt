pub mod Stops
pub mod Values
pub mod Rights
