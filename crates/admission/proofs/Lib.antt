pub mod Verdicts
pub mod Admitted
pub mod Changes
