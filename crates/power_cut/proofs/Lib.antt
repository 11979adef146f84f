pub mod Counts
pub mod Cuts
pub mod Each
pub mod Heads
pub mod Heaped
pub mod Numbers
pub mod Quiet
pub mod Spelling
