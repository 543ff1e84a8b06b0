-- What is named above of the proofs of standing_laws.
pub use Rattle.domain_memory.proofs.OfStandingLaws.BooksStay
pub use Rattle.domain_memory.proofs.OfStandingLaws.FilesetPut
