pub mod Places
pub mod Puts
pub mod Same
