pub mod LettingGo
pub mod QuotaCells
pub mod Emptying
