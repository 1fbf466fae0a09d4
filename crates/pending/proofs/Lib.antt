pub mod All
pub mod Put
pub mod Judged
pub mod Node
