pub mod Needs
pub mod Scans
