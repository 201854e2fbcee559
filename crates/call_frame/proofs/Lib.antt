pub mod Fetching
pub mod Operands
pub mod Quick
pub mod Several
pub mod Superinstructions
