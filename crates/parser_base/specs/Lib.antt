pub mod Lexemes
pub mod Cursor
pub mod Spelling
pub mod Reading
pub mod Faults
