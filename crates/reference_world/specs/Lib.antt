pub mod Deeds
pub mod Events
