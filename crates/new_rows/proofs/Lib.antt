pub mod Folding
pub mod Inputs
