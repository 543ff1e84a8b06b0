-- What is named above of the proofs of quota_book.
pub use Rattle.standing_laws.proofs.OfQuotaBook.Cells
pub use Rattle.standing_laws.proofs.OfQuotaBook.ModelChanges
pub use Rattle.standing_laws.proofs.OfQuotaBook.OneNode
pub use Rattle.standing_laws.proofs.OfQuotaBook.Shares
pub use Rattle.standing_laws.proofs.OfQuotaBook.Sums
pub use Rattle.standing_laws.proofs.OfQuotaBook.Unchanged
