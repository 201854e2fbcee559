pub mod Waits
pub mod Controls
pub mod Closed
pub mod Selects
pub mod Branches
