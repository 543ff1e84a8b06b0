-- What is named above of the proofs of legal_histories.
pub use Rattle.fileset_shapes.proofs.OfLegalHistories.GoesOn
pub use Rattle.fileset_shapes.proofs.OfLegalHistories.ImageLemmas
pub use Rattle.fileset_shapes.proofs.OfLegalHistories.Inside
pub use Rattle.fileset_shapes.proofs.OfLegalHistories.PlainLemmas
pub use Rattle.fileset_shapes.proofs.OfLegalHistories.Restamped
pub use Rattle.fileset_shapes.proofs.OfLegalHistories.SumLemmas
pub use Rattle.fileset_shapes.proofs.OfLegalHistories.ValidCheckLemmas
pub use Rattle.fileset_shapes.proofs.OfLegalHistories.ValidLemmas
pub use Rattle.fileset_shapes.proofs.OfLegalHistories.ValidMoveLemmas
pub use Rattle.fileset_shapes.proofs.OfLegalHistories.ValidTreeLemmas
