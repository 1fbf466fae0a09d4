pub mod Filled
pub mod Node
pub mod Out
