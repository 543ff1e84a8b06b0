-- What is named above of the proofs of quota_book.
pub use Rattle.domain_memory.proofs.OfQuotaBook.Cells
pub use Rattle.domain_memory.proofs.OfQuotaBook.OneNode
