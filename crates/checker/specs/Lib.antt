pub mod Faults
pub mod Firsts
pub mod Trees
