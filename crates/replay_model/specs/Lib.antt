pub mod Replays
pub mod Kept
pub mod Endings
pub mod Laws
