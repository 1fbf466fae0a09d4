pub mod Actions
pub mod Numbers
