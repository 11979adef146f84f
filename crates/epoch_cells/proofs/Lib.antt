pub mod Beginnings
pub mod Cuts
pub mod Going
pub mod Records
pub mod Written
