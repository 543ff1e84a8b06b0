-- What is named above of the proofs of fileset_model.
pub use Rattle.filesets_reading.proofs.OfFilesetModel.ChangeLemmas
pub use Rattle.filesets_reading.proofs.OfFilesetModel.MoveLemmas
pub use Rattle.filesets_reading.proofs.OfFilesetModel.OwnerLemmas
pub use Rattle.filesets_reading.proofs.OfFilesetModel.PageLemmas
