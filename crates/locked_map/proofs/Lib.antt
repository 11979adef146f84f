mod Finding
mod Places
mod Begins
mod Listings
mod TestRooms
