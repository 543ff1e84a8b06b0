-- What is named above of the proofs of release_list.
pub use Rattle.domain_changes.proofs.OfReleaseList.Spread
