pub mod States
pub mod Worked
pub mod Pieces
