pub mod Answering
pub mod Exit
pub mod Made
pub mod Reading
pub mod Scripted
pub mod Transfer
pub mod Usage
pub mod Verified
pub use Rattle.script_text.specs.command_text
pub use Rattle.script_text.specs as script_text
