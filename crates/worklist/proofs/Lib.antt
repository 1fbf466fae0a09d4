pub mod Putting
pub mod Listing
pub mod Worked
