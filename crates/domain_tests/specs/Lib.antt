pub mod Written
pub mod EmptyDomain
pub mod OneFileset
