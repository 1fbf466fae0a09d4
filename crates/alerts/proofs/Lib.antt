pub mod Exactly
pub mod Folding
pub mod Taking
pub mod Turns
pub mod Theorem
