-- What is named above of the proofs of quota_book.
pub use Rattle.domain_standing.proofs.OfQuotaBook.Cells
pub use Rattle.domain_standing.proofs.OfQuotaBook.ModelChanges
pub use Rattle.domain_standing.proofs.OfQuotaBook.OneNode
pub use Rattle.domain_standing.proofs.OfQuotaBook.Shares
pub use Rattle.domain_standing.proofs.OfQuotaBook.Sums
pub use Rattle.domain_standing.proofs.OfQuotaBook.Unchanged
