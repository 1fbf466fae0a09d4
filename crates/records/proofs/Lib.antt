pub mod Header
pub mod Offsets
