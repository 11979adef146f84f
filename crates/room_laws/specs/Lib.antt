pub mod MapRows
pub mod QueueRows
pub mod Stocks
pub mod Rooms
pub mod Commands
pub mod Stores
