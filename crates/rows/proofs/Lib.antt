pub mod Words
pub mod Pairs
pub mod Search
pub mod Place
pub mod Padding
pub mod Placed
