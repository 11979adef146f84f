pub mod Events
pub mod Recoveries
pub mod Runs
pub mod Words
pub mod Findings
