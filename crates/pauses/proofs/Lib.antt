pub mod Again
pub mod Headed
pub mod Masks
pub mod Offers
pub mod Retelling
pub mod Falls
pub mod Tested
