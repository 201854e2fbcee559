pub mod Lasts
pub mod Newer
pub mod Parts
