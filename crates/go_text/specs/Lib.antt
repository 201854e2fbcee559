pub mod Source
pub mod Lines
pub mod Titles
