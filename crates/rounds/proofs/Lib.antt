pub mod Sums
mod Spends
mod GoesOn
mod Seldom
pub mod Enough
mod Alone
