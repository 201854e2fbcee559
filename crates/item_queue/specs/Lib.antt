pub mod Items
pub mod Lines
