-- What is named above of the proofs of quota_book.
pub use Rattle.filesets_reading.proofs.OfQuotaBook.Cells
pub use Rattle.filesets_reading.proofs.OfQuotaBook.ModelChanges
pub use Rattle.filesets_reading.proofs.OfQuotaBook.OneNode
pub use Rattle.filesets_reading.proofs.OfQuotaBook.Shares
pub use Rattle.filesets_reading.proofs.OfQuotaBook.Sums
pub use Rattle.filesets_reading.proofs.OfQuotaBook.Unchanged
