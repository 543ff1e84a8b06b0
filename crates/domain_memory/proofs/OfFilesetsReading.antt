-- What is named above of the proofs of filesets_reading.
pub use Rattle.standing_laws.proofs.OfFilesetsReading.CellTables
pub use Rattle.standing_laws.proofs.OfFilesetsReading.ChainsApart
pub use Rattle.standing_laws.proofs.OfFilesetsReading.ChainsThere
pub use Rattle.standing_laws.proofs.OfFilesetsReading.FirstCells
pub use Rattle.standing_laws.proofs.OfFilesetsReading.Layouts
pub use Rattle.standing_laws.proofs.OfFilesetsReading.OnTables
pub use Rattle.standing_laws.proofs.OfFilesetsReading.TagPlaces
pub use Rattle.standing_laws.proofs.OfFilesetsReading.Ways
