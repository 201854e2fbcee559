pub mod Options
pub mod Fitted
pub mod Instrs
pub mod Unstuck
pub mod Silent
pub mod Listings
