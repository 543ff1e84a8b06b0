pub mod Accounts
pub mod Book
pub mod Owners
pub mod QuotaCells
pub mod Sums
pub use Rattle.fileset_model.specs as fileset_model
pub use Rattle.fileset_model.specs.fileset_values
