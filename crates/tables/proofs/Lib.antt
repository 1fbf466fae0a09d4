pub mod Folds
pub mod Acts
