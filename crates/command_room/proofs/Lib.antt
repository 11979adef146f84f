pub mod Words
pub mod Moves
pub mod Begins
pub mod Steps
pub mod Plannings
pub mod Made
pub mod FormattedRooms
