pub mod Stable
pub mod Grows
pub mod Twins
pub mod Settled
pub mod Best
