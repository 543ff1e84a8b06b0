-- What is named above of the proofs of fileset_model.
pub use Rattle.domain_memory.proofs.OfFilesetModel.MoveLemmas
