-- What is named above of the proofs of extent_records.
pub use Rattle.file_release.proofs.OfExtentRecords.ChainLemmas
pub use Rattle.file_release.proofs.OfExtentRecords.PutLemmas
