-- What is named above of the proofs of filesets_reading.
pub use Rattle.filesets_reading.proofs.CellTables
pub use Rattle.filesets_reading.proofs.ChainsApart
pub use Rattle.filesets_reading.proofs.ChainsThere
pub use Rattle.filesets_reading.proofs.FirstCells
pub use Rattle.filesets_reading.proofs.Layouts
pub use Rattle.filesets_reading.proofs.OnTables
pub use Rattle.filesets_reading.proofs.TagPlaces
pub use Rattle.filesets_reading.proofs.Ways
