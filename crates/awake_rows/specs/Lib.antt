pub mod Slots
pub mod Living
