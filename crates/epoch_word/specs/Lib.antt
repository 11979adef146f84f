pub mod SuperLine
pub mod Stages
