pub mod PlaceLaws
pub mod RightLaws
pub mod CallLaws
pub mod FormLaws
pub mod FitLaws
pub mod SimpleLaws
pub mod BeginLaws
pub mod Sizes
