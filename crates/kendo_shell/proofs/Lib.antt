pub mod Findings
pub mod Obeying
pub mod SeveralFiles
