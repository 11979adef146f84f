pub mod Loads
pub mod Rests
mod TestPlans
