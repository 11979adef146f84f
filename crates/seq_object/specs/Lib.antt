pub mod Sizes
pub mod Object
pub mod History
pub mod Plain
pub mod Laws
