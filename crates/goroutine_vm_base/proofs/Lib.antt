pub mod Calls
pub mod Crossing
pub mod Stacks
