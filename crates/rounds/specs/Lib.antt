pub mod Progress
pub mod Events
pub mod Sound
pub mod Spent
pub mod Laws
