mod Hands
pub mod Opening
mod TurnRooms
mod TurnFew
mod TurnShown
mod TurnKept
mod TurnMakes
mod TurnRoomEvents
mod TurnHeld
mod TurnEmpty
mod TurnStanding
mod TurnClosing
mod Turn
pub mod Refused
pub mod Runs
pub mod Whole
