-- What is named above of the proofs of name_space.
pub use Rattle.filesets_reading.proofs.OfNameSpace.Counted
pub use Rattle.filesets_reading.proofs.OfNameSpace.CreatedNames
pub use Rattle.filesets_reading.proofs.OfNameSpace.Leads
pub use Rattle.filesets_reading.proofs.OfNameSpace.Likeness
pub use Rattle.filesets_reading.proofs.OfNameSpace.Made
pub use Rattle.filesets_reading.proofs.OfNameSpace.MovedPaths
pub use Rattle.filesets_reading.proofs.OfNameSpace.OneWay
pub use Rattle.filesets_reading.proofs.OfNameSpace.Originals
pub use Rattle.filesets_reading.proofs.OfNameSpace.Roots
pub use Rattle.filesets_reading.proofs.OfNameSpace.Spots
pub use Rattle.filesets_reading.proofs.OfNameSpace.Views
