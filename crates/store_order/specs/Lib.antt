pub mod Choice
pub mod Survivors
