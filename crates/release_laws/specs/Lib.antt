pub mod QuotaCells
pub mod Released
pub mod Trimmed
pub mod Freed
pub mod AtHand
