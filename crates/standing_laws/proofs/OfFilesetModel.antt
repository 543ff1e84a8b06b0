-- What is named above of the proofs of fileset_model.
pub use Rattle.domain_standing.proofs.OfFilesetModel.ChangeLemmas
pub use Rattle.domain_standing.proofs.OfFilesetModel.MoveLemmas
pub use Rattle.domain_standing.proofs.OfFilesetModel.OwnerLemmas
pub use Rattle.domain_standing.proofs.OfFilesetModel.PageLemmas
