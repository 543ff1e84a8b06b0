-- What is named above of the proofs of release_list.
pub use Rattle.domain_standing.proofs.OfReleaseList.Firsts
pub use Rattle.domain_standing.proofs.OfReleaseList.Lists
pub use Rattle.domain_standing.proofs.OfReleaseList.QuotaCells
pub use Rattle.domain_standing.proofs.OfReleaseList.Records
pub use Rattle.domain_standing.proofs.OfReleaseList.Spread
pub use Rattle.domain_standing.proofs.OfReleaseList.Standings
