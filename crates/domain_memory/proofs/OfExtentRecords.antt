-- What is named above of the proofs of extent_records.
pub use Rattle.standing_laws.proofs.OfExtentRecords.ChainLemmas
pub use Rattle.standing_laws.proofs.OfExtentRecords.PutLemmas
