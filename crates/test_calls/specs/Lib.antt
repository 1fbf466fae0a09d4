pub mod Lines
pub mod Operations
pub mod Script
