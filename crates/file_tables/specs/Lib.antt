pub mod Worlds
pub mod Chains
