pub mod Orders
pub mod Naming
pub mod Rows
