-- What is named above of the proofs of fileset_model.
pub use Rattle.legal_histories.proofs.OfFilesetModel.ChangeLemmas
pub use Rattle.legal_histories.proofs.OfFilesetModel.MoveLemmas
pub use Rattle.legal_histories.proofs.OfFilesetModel.OwnerLemmas
pub use Rattle.legal_histories.proofs.OfFilesetModel.PageLemmas
pub use Rattle.legal_histories.proofs.OfFilesetModel.RowsLemmas
