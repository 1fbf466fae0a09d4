pub mod Joins
pub mod Masked
pub mod Walk
