pub mod First
mod Moving
