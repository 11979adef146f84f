pub mod Learnts
pub mod Closers
pub mod Steps
pub mod Events
pub mod Laws
