pub mod Explored
