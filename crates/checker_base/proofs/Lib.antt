pub mod Powers
pub mod Literals
