-- What is named above of the proofs of quota_book.
pub use Rattle.domain_layout.proofs.OfQuotaBook.Cells
pub use Rattle.domain_layout.proofs.OfQuotaBook.ModelChanges
pub use Rattle.domain_layout.proofs.OfQuotaBook.OneNode
pub use Rattle.domain_layout.proofs.OfQuotaBook.Shares
pub use Rattle.domain_layout.proofs.OfQuotaBook.Sums
pub use Rattle.domain_layout.proofs.OfQuotaBook.Unchanged
