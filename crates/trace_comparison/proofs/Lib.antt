pub mod Counting
pub mod Events
pub mod First
pub mod Lists
pub mod Matching
pub mod Reading
pub mod Same
pub mod Steps
