pub mod Commands
pub mod Queues
pub mod Begins
pub mod TestRooms
