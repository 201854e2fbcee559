pub mod Selects
pub mod Steps
