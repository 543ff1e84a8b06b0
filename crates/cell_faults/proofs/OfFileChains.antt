-- What is named above of the proofs of file_chains.
pub use Rattle.page_ways.proofs.OfFileChains.MapRecords
