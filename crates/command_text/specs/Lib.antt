pub mod Commands
pub mod Texts
pub mod WellFormed
pub use Rattle.word_forms.specs.domain_base
pub use Rattle.word_forms.specs.fileset_values
pub use Rattle.word_forms.specs as word_forms
