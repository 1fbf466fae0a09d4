pub mod Head
pub mod Next
