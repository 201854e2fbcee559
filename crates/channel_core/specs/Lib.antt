pub mod Asleep
pub mod Channels
pub mod Orders
pub mod Words
