pub mod Histories
pub mod Places
pub mod Snapshots
pub mod Steps
pub mod Worlds
pub mod Progress
