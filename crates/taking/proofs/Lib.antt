pub mod Row
pub mod Ranks
pub mod Answered
