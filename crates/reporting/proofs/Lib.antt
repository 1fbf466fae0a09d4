pub mod Reported
pub mod Sizes
