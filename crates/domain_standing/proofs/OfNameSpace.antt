-- What is named above of the proofs of name_space.
pub use Rattle.fileset_shapes.proofs.OfNameSpace.Counted
pub use Rattle.fileset_shapes.proofs.OfNameSpace.CreatedNames
pub use Rattle.fileset_shapes.proofs.OfNameSpace.Leads
pub use Rattle.fileset_shapes.proofs.OfNameSpace.Likeness
pub use Rattle.fileset_shapes.proofs.OfNameSpace.MovedPaths
pub use Rattle.fileset_shapes.proofs.OfNameSpace.OneWay
pub use Rattle.fileset_shapes.proofs.OfNameSpace.Originals
pub use Rattle.fileset_shapes.proofs.OfNameSpace.Roots
pub use Rattle.fileset_shapes.proofs.OfNameSpace.Spots
pub use Rattle.fileset_shapes.proofs.OfNameSpace.Views
