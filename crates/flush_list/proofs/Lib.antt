pub mod FirstMarks
pub mod Giving
pub mod Joining
