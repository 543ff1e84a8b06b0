-- What is named above of the proofs of extent_records.
pub use Rattle.extent_records.proofs.ChainLemmas
pub use Rattle.extent_records.proofs.PutLemmas
