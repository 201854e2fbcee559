pub mod Goes
pub mod Declaring
pub mod Anywhere
pub mod Wholes
pub mod Givens
pub mod Paths
