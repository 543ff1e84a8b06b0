pub mod Names
pub mod Walks
pub mod Lists
pub mod Changes
pub mod Laws
pub mod Views
pub mod Rows
pub mod Parts
pub mod Trees
pub use Rattle.directory_rows.specs.directory_pages
pub use Rattle.directory_rows.specs as directory_rows
pub use Rattle.plain_program.specs.fileset_model
pub use Rattle.plain_program.specs.fileset_values
pub use Rattle.plain_program.specs.legal_histories
pub use Rattle.plain_program.specs as plain_program
