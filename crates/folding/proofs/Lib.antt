pub mod All
pub mod Folded
pub mod Ready
pub mod Written
pub mod Loop
pub mod Answered
