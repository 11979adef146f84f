pub mod Answered
pub mod Turned
pub mod Keeps
pub mod EndingsTold
pub mod Opens
pub mod GivenUp
