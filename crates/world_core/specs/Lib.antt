pub mod Schedules
pub use Rattle.world_core_base.specs.Slots
pub use Rattle.world_core_base.specs.Cores
