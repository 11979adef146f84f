pub mod Drawn
pub mod More
pub mod Leaving
