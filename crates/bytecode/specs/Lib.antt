pub mod Code
pub mod Effects
pub mod Machine
pub mod Rules
pub mod Silence
pub mod Listing
