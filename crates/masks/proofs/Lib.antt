pub mod Examples
pub mod Masks
