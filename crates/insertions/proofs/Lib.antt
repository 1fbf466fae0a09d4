pub mod Gaps
pub mod Edit
pub mod Stand
pub mod Shorter
