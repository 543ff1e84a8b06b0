-- What is named above of the proofs of directory_rows.
pub use Rattle.tag_faults.proofs.OfDirectoryRows.AllLed
