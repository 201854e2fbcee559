pub mod Acting
pub mod Lists
pub mod Performing
pub mod Requests
pub mod Serving
pub mod Events
