pub mod Listed
pub mod Recorded
