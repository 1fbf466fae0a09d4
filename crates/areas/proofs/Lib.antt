pub mod Good
pub mod Gaps
pub mod Pasted
