pub mod Holds
pub mod Steps
pub mod Opening
pub mod Coherence
pub mod Determined
pub mod Advances
pub mod Theorem
pub mod Refusals
