pub mod Bytes
pub mod Cut
pub mod Image
pub mod Laws
pub mod FaultText
