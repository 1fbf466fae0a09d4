pub mod Placed
pub mod Agree
pub mod Coherent
