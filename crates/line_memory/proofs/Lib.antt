pub mod Asked
pub mod Counts
pub mod Stores
pub mod Survivors
pub mod WholeLines
