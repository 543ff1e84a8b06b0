pub mod Telling
pub mod Views
pub mod Kept
pub mod Plays
pub mod Passes
pub mod Turns
pub mod Ledgers
pub mod Working
pub use Rattle.fileset_values.specs as fileset_values
