pub mod Names
pub mod Types
pub mod Rights
pub mod Literals
pub mod Constants
