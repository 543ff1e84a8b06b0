-- What is named above of the proofs of fileset_model.
pub use Rattle.standing_laws.proofs.OfFilesetModel.ChangeLemmas
pub use Rattle.standing_laws.proofs.OfFilesetModel.MoveLemmas
pub use Rattle.standing_laws.proofs.OfFilesetModel.OwnerLemmas
pub use Rattle.standing_laws.proofs.OfFilesetModel.PageLemmas
