pub mod History
pub mod Reading
pub mod Script
pub mod Turns
pub mod Words
pub use Rattle.command_text.specs as command_text
pub use Rattle.command_text.specs.domain_base
pub use Rattle.command_text.specs.fileset_values
pub use Rattle.command_text.specs.word_forms
