-- What is named above of the proofs of release_steps.
pub use Rattle.standing_laws.proofs.OfReleaseSteps.DeferredLaws
pub use Rattle.standing_laws.proofs.OfReleaseSteps.Fits
pub use Rattle.standing_laws.proofs.OfReleaseSteps.Narrower
pub use Rattle.standing_laws.proofs.OfReleaseSteps.Others
pub use Rattle.standing_laws.proofs.OfReleaseSteps.PagesWritten
pub use Rattle.standing_laws.proofs.OfReleaseSteps.SourcesStay
pub use Rattle.standing_laws.proofs.OfReleaseSteps.StillAmong
pub use Rattle.standing_laws.proofs.OfReleaseSteps.Tags
