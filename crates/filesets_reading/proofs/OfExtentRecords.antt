-- What is named above of the proofs of extent_records.
pub use Rattle.domain_layout.proofs.OfExtentRecords.ChainLemmas
pub use Rattle.domain_layout.proofs.OfExtentRecords.PutLemmas
