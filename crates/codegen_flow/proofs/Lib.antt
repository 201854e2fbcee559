pub mod Filled
pub mod Closing
pub mod Settling
