pub mod Advance
pub mod Told
