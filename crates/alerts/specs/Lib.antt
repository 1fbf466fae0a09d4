pub mod Turns
pub mod Alerts
