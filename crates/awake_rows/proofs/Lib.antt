pub mod Changed
pub mod Floors
pub mod Found
pub mod Kept
pub mod Least
pub mod Stepping
pub mod Talking
