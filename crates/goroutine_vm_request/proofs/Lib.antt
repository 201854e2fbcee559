pub mod Asking
pub mod Talking
