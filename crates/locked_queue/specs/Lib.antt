pub mod Plans
pub mod Queue
pub mod Laws
pub mod Tests
