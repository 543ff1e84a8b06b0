-- What is named above of the proofs of file_chains.
pub use Rattle.domain_layout.proofs.OfFileChains.MapRecords
