pub mod Widths
pub mod Written
pub mod Tables
pub mod Fields
pub mod Names
