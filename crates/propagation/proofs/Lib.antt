pub mod News
pub mod Network
