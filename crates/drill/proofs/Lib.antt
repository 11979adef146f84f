pub mod Drawing
pub mod Texts
pub mod Histories
pub mod NextLives
pub mod LifeCalls
pub mod LastLife
