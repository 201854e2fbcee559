pub mod Styles
pub mod Cutting
