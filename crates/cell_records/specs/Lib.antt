pub mod Layouts
pub mod Records
pub mod Wrong
pub mod Rules
pub mod Fields
pub use Rattle.domain_base.specs as domain_base
