pub mod SimpleNodes
pub mod StatementNodes
pub mod Nodes
pub mod Bodies
pub mod Rows
