pub mod Gathered
pub mod Openings
pub mod Returned
pub mod Told
pub mod Words
pub mod Looks
mod OwnViews
