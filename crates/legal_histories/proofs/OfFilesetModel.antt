-- What is named above of the proofs of fileset_model.
pub use Rattle.fileset_model.proofs.ChangeLemmas
pub use Rattle.fileset_model.proofs.MoveLemmas
pub use Rattle.fileset_model.proofs.OwnerLemmas
pub use Rattle.fileset_model.proofs.PageLemmas
pub use Rattle.fileset_model.proofs.RowsLemmas
