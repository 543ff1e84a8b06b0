-- What is named above of the proofs of fileset_model.
pub use Rattle.name_commands.proofs.OfFilesetModel.MoveLemmas
