pub mod Indexes
pub mod Contexts
pub mod Emission
pub mod Depths
