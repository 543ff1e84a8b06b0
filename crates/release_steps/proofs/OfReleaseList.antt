-- What is named above of the proofs of release_list.
pub use Rattle.release_list.proofs.Firsts
pub use Rattle.release_list.proofs.Lists
pub use Rattle.release_list.proofs.Loops
pub use Rattle.release_list.proofs.QuotaCells
pub use Rattle.release_list.proofs.Records
pub use Rattle.release_list.proofs.Spread
pub use Rattle.release_list.proofs.Standings
pub use Rattle.release_list.proofs.Well
