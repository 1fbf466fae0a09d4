pub mod Numbers
pub mod Ran
pub mod Told
