pub mod Turns
pub mod Quanta
pub mod Quiet
