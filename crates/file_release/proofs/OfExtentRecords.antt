-- What is named above of the proofs of extent_records.
pub use Rattle.fileset_files.proofs.OfExtentRecords.ChainLemmas
pub use Rattle.fileset_files.proofs.OfExtentRecords.PutLemmas
