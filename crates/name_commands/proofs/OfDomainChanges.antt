-- What is named above of the proofs of domain_changes.
pub use Rattle.domain_changes.proofs.BooksFollow
