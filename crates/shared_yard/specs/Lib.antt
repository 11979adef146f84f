pub mod Rule
pub mod Plays
pub mod Hands
pub mod Seats
pub mod Names
pub mod Openings
pub mod Endings
