pub mod Within
pub mod KnownWidths
pub mod Declared
pub mod Tops
