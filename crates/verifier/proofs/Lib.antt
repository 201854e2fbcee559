pub mod Entries
pub mod Visits
pub mod Holds
pub mod Safe
