-- What is named above of the proofs of release_list.
pub use Rattle.domain_memory.proofs.OfReleaseList.QuotaCells
pub use Rattle.domain_memory.proofs.OfReleaseList.Spread
pub use Rattle.domain_memory.proofs.OfReleaseList.Standings
