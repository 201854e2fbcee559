pub mod DeclaredLists
pub mod DeclaredLaws
pub mod TopLaws
pub mod FileLaws
pub mod Sizes
pub mod Counts
pub mod Parsing
pub mod Spelled
