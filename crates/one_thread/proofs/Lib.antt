pub mod After
pub mod Histories
pub mod Moves
pub mod Printed
pub mod Orderly
pub mod Standing
pub mod Within
pub mod Keyed
mod Falling
pub mod Snapshots
