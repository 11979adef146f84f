pub mod Rows
pub mod GivingUp
pub mod Begun
pub mod OwnRooms
