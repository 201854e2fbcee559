pub mod HeaderLaws
pub mod CommLaws
pub mod Sizes
