pub mod ArrivalWord
pub mod Laws
pub mod Rooms
