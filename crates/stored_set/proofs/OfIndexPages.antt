-- What is named above of the proofs of index_pages.
pub use Rattle.index_pages.proofs.Changed
pub use Rattle.index_pages.proofs.Dropped
pub use Rattle.index_pages.proofs.Held
pub use Rattle.index_pages.proofs.Homes
