pub mod Desks
pub mod Handing
pub mod Leases
pub mod Names
pub mod Runs
pub mod Slots
pub mod Turns
