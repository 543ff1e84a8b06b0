pub mod Stages
pub mod Room
pub mod Looking
