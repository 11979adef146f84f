pub mod Walks
pub mod Numbers
pub mod Tellings
pub mod Naming
pub mod Readings
pub mod Adding
