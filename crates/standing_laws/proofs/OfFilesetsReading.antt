-- What is named above of the proofs of filesets_reading.
pub use Rattle.domain_standing.proofs.OfFilesetsReading.CellTables
pub use Rattle.domain_standing.proofs.OfFilesetsReading.ChainsApart
pub use Rattle.domain_standing.proofs.OfFilesetsReading.ChainsThere
pub use Rattle.domain_standing.proofs.OfFilesetsReading.FirstCells
pub use Rattle.domain_standing.proofs.OfFilesetsReading.Layouts
pub use Rattle.domain_standing.proofs.OfFilesetsReading.OnTables
pub use Rattle.domain_standing.proofs.OfFilesetsReading.TagPlaces
pub use Rattle.domain_standing.proofs.OfFilesetsReading.Ways
