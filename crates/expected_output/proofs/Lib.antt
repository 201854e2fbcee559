pub mod SameLines
pub mod SortedLines
pub mod Saying
pub mod Commenting
pub mod Grouping
pub mod Around
pub mod Expecting
