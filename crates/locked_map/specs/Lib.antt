pub mod Room
pub mod Plans
pub mod Listing
pub mod Tests
