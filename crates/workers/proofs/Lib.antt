pub mod Queues
pub mod Teams
