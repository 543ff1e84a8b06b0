-- What is named above of the proofs of release_list.
pub use Rattle.standing_laws.proofs.OfReleaseList.Lists
pub use Rattle.standing_laws.proofs.OfReleaseList.QuotaCells
pub use Rattle.standing_laws.proofs.OfReleaseList.Spread
pub use Rattle.standing_laws.proofs.OfReleaseList.Standings
