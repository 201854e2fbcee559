pub mod Others
pub mod Printing
pub mod Verdicts
