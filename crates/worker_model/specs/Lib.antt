pub mod Counts
pub mod Workers
pub mod Turns
pub mod Laws
