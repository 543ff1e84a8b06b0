-- What is named above of the proofs of fileset_model.
pub use Rattle.fileset_shapes.proofs.OfFilesetModel.ChangeLemmas
pub use Rattle.fileset_shapes.proofs.OfFilesetModel.MoveLemmas
pub use Rattle.fileset_shapes.proofs.OfFilesetModel.OwnerLemmas
pub use Rattle.fileset_shapes.proofs.OfFilesetModel.PageLemmas
