pub mod Life
pub mod Ends
pub mod Crash
pub mod Present
pub mod Work
pub mod Lives
pub mod Told
