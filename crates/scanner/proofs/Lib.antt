pub mod Ascii
pub mod Characters
pub mod Greatest
pub mod Reading
pub mod Scanning
pub mod Order
pub mod Counting
pub mod Keywords
