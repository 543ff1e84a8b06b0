pub mod Opening
pub mod Room
pub mod History
pub mod Rest
pub mod Short
