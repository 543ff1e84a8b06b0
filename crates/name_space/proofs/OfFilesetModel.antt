-- What is named above of the proofs of fileset_model.
pub use Rattle.plain_program.proofs.OfFilesetModel.ChangeLemmas
pub use Rattle.plain_program.proofs.OfFilesetModel.MoveLemmas
pub use Rattle.plain_program.proofs.OfFilesetModel.OwnerLemmas
pub use Rattle.plain_program.proofs.OfFilesetModel.PageLemmas
