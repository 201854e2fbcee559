pub mod Scopes
pub mod Parts
pub mod Destinations
