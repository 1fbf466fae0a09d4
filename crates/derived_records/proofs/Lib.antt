pub mod Lists
pub mod Body
mod NoMatch
