pub mod Returning
pub mod Zeros
pub mod Starting
pub mod Ranging
pub mod Selecting
pub use Rattle.codegen_simple.proofs.Leaving
