pub mod Rows
pub mod Headers
pub mod Defaults
pub mod Further
