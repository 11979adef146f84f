pub mod Shown
pub mod Seats
pub mod Meaning
pub mod Kept
pub mod Opening
pub mod Apart
