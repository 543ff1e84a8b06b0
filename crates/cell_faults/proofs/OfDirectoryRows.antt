-- What is named above of the proofs of directory_rows.
pub use Rattle.page_ways.proofs.OfDirectoryRows.AllLed
