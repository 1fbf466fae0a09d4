pub mod Chosen
pub mod Picked
pub mod Told
