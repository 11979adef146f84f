pub mod Lines
pub mod ByRoom
pub mod Memory
pub mod Images
