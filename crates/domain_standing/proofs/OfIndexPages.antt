-- What is named above of the proofs of index_pages.
pub use Rattle.stored_set.proofs.OfIndexPages.Changed
pub use Rattle.stored_set.proofs.OfIndexPages.Dropped
pub use Rattle.stored_set.proofs.OfIndexPages.Held
pub use Rattle.stored_set.proofs.OfIndexPages.Homes
