pub mod Paces
pub mod Queues
pub mod Views
