pub mod Runs
pub mod Starts
pub mod Ends
pub mod Steps
pub mod Enough
pub mod Recovers
pub mod Jobs
pub mod Resumes
