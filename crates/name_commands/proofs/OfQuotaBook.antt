-- What is named above of the proofs of quota_book.
pub use Rattle.domain_changes.proofs.OfQuotaBook.ModelChanges
pub use Rattle.domain_changes.proofs.OfQuotaBook.Sums
