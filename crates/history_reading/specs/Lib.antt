pub mod Entries
pub mod Reading
pub use Rattle.script_text.specs.domain_base
pub use Rattle.script_text.specs.fileset_values
pub use Rattle.script_text.specs as script_text
pub use Rattle.script_text.specs.word_forms
