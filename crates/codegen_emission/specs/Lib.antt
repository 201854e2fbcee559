pub mod Emitted
pub mod Contexts
pub mod Turns
pub mod Branches
pub mod Ways
pub mod Items
pub use Rattle.codegen_header.specs.Layouts
