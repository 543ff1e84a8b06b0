-- What is named above of the proofs of extent_records.
pub use Rattle.filesets_reading.proofs.OfExtentRecords.ChainLemmas
pub use Rattle.filesets_reading.proofs.OfExtentRecords.PutLemmas
