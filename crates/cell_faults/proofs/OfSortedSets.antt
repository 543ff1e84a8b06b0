-- What is named above of the proofs of sorted_sets.
pub use Rattle.page_ways.proofs.OfSortedSets.Below
pub use Rattle.page_ways.proofs.OfSortedSets.Found
pub use Rattle.page_ways.proofs.OfSortedSets.Items
pub use Rattle.page_ways.proofs.OfSortedSets.Placed
pub use Rattle.page_ways.proofs.OfSortedSets.Search
