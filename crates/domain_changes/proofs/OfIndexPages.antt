-- What is named above of the proofs of index_pages.
pub use Rattle.domain_memory.proofs.OfIndexPages.Dropped
pub use Rattle.domain_memory.proofs.OfIndexPages.Homes
