-- What is named above of the proofs of quota_book.
pub use Rattle.fileset_shapes.proofs.OfQuotaBook.Cells
pub use Rattle.fileset_shapes.proofs.OfQuotaBook.ModelChanges
pub use Rattle.fileset_shapes.proofs.OfQuotaBook.OneNode
pub use Rattle.fileset_shapes.proofs.OfQuotaBook.Shares
pub use Rattle.fileset_shapes.proofs.OfQuotaBook.Sums
pub use Rattle.fileset_shapes.proofs.OfQuotaBook.Unchanged
