pub mod Sizes
pub mod LeafLaws
pub mod StatementLists
pub mod StatementAgain
pub mod StatementSound
pub mod StatementLaws
pub mod DepthsLeft
pub mod Parts
