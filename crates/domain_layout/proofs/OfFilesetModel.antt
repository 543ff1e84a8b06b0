-- What is named above of the proofs of fileset_model.
pub use Rattle.name_space.proofs.OfFilesetModel.ChangeLemmas
pub use Rattle.name_space.proofs.OfFilesetModel.MoveLemmas
pub use Rattle.name_space.proofs.OfFilesetModel.OwnerLemmas
pub use Rattle.name_space.proofs.OfFilesetModel.PageLemmas
