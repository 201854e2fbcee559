pub mod Scheduling
pub use Rattle.world_core_base.proofs.Leases
pub use Rattle.world_core_base.proofs.Others
pub mod Entries
pub mod Moments
