pub mod LineLemmas
pub mod ScriptLemmas
pub mod WordLemmas
pub mod OfCommandText
pub mod OfWordForms
