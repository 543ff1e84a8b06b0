-- What is named above of the proofs of fileset_model.
pub use Rattle.domain_layout.proofs.OfFilesetModel.ChangeLemmas
pub use Rattle.domain_layout.proofs.OfFilesetModel.MoveLemmas
pub use Rattle.domain_layout.proofs.OfFilesetModel.OwnerLemmas
pub use Rattle.domain_layout.proofs.OfFilesetModel.PageLemmas
