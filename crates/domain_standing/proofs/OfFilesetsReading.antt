-- What is named above of the proofs of filesets_reading.
pub use Rattle.fileset_shapes.proofs.OfFilesetsReading.CellTables
pub use Rattle.fileset_shapes.proofs.OfFilesetsReading.ChainsApart
pub use Rattle.fileset_shapes.proofs.OfFilesetsReading.ChainsThere
pub use Rattle.fileset_shapes.proofs.OfFilesetsReading.FirstCells
pub use Rattle.fileset_shapes.proofs.OfFilesetsReading.Layouts
pub use Rattle.fileset_shapes.proofs.OfFilesetsReading.OnTables
pub use Rattle.fileset_shapes.proofs.OfFilesetsReading.TagPlaces
pub use Rattle.fileset_shapes.proofs.OfFilesetsReading.Ways
