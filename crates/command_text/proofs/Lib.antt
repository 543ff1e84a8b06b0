pub mod CommandForms
pub mod CommandLemmas
pub mod FindLemmas
mod Owners
pub mod OfWordForms
