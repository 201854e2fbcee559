pub mod Programs
pub mod Bodies
