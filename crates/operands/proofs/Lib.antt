pub mod Fitting
pub mod Selects
