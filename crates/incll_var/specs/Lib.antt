pub mod Cells
pub mod Laws
pub mod Plans
pub mod Restore
pub mod Stored
