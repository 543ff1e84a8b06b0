-- What is named above of the proofs of index_pages.
pub use Rattle.standing_laws.proofs.OfIndexPages.Dropped
pub use Rattle.standing_laws.proofs.OfIndexPages.Homes
