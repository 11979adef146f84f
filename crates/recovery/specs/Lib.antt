pub mod Restored
pub mod Recovering
pub mod Banks
pub mod Ends
pub mod Laws
pub mod Kept
pub mod Told
