pub mod Appending
pub mod Naming
pub mod Printing
pub mod Updating
pub mod Leaving
pub mod Rights
pub mod Placing
pub mod Storing
