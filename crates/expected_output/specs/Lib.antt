pub mod Meeting
pub mod Printing
pub mod Saying
pub mod Ends
pub mod Comments
pub mod Expecting
