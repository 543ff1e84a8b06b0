-- What is named above of the proofs of release_steps.
pub use Rattle.domain_memory.proofs.OfReleaseSteps.DeferredLaws
pub use Rattle.domain_memory.proofs.OfReleaseSteps.Fits
pub use Rattle.domain_memory.proofs.OfReleaseSteps.Narrower
pub use Rattle.domain_memory.proofs.OfReleaseSteps.Others
pub use Rattle.domain_memory.proofs.OfReleaseSteps.StillAmong
pub use Rattle.domain_memory.proofs.OfReleaseSteps.Tags
