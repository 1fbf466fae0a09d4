pub mod Batches
pub mod Nodes
pub mod Steps
