pub mod Differ
pub mod Nodes
