pub mod Leaving
pub mod Clauses
