pub mod Causes
pub mod Bytes
pub mod Images
pub mod Entries
pub mod InMemory
pub mod Laws
