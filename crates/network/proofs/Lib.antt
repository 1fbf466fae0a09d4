pub mod Building
pub mod ReadAll
pub mod Kept
pub mod Nodes
