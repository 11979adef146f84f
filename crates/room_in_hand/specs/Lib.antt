pub mod Known
pub mod InHand
pub mod Events
pub mod Working
pub mod Laws
