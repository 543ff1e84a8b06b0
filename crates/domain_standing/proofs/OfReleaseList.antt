-- What is named above of the proofs of release_list.
pub use Rattle.release_steps.proofs.OfReleaseList.Firsts
pub use Rattle.release_steps.proofs.OfReleaseList.Lists
pub use Rattle.release_steps.proofs.OfReleaseList.QuotaCells
pub use Rattle.release_steps.proofs.OfReleaseList.Records
pub use Rattle.release_steps.proofs.OfReleaseList.Spread
pub use Rattle.release_steps.proofs.OfReleaseList.Standings
