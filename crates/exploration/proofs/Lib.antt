pub mod Finding
pub mod Holding
