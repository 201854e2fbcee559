pub mod Comparing
pub mod Counting
pub mod Requests
pub mod Texts
