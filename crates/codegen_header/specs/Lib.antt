pub mod Received
pub mod Returned
pub use Rattle.codegen_simple.specs.Layouts
pub use Rattle.codegen_simple.specs.Simples
