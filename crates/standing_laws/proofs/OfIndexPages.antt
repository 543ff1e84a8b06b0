-- What is named above of the proofs of index_pages.
pub use Rattle.domain_standing.proofs.OfIndexPages.Dropped
pub use Rattle.domain_standing.proofs.OfIndexPages.Homes
