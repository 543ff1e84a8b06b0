-- What is named above of the proofs of quota_book.
pub use Rattle.quota_book.proofs.Cells
pub use Rattle.quota_book.proofs.ModelChanges
pub use Rattle.quota_book.proofs.OneNode
pub use Rattle.quota_book.proofs.Shares
pub use Rattle.quota_book.proofs.Sums
pub use Rattle.quota_book.proofs.Unchanged
