pub mod Layouts
pub mod Simples
pub mod Spots
pub mod Rights
