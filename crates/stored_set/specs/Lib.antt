pub mod Elsewhere
pub mod Standing
pub mod Whole
pub mod Sets
pub use Rattle.index_pages.specs as index_pages
