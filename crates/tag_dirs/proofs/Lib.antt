pub mod Added
pub mod InPlace
pub mod NewPage
pub mod Places
pub mod Reading
pub mod Slots
pub mod Takeable
pub mod WrittenEntry
