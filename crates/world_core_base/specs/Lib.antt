pub mod Cores
pub use Rattle.awake_rows.specs.Slots
pub mod Talking
