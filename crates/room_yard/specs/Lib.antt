pub mod Told
pub mod Calls
pub mod Answers
pub mod Untouched
pub mod Laws
pub mod World
