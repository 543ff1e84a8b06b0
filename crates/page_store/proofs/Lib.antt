mod FileLemmas
pub mod OfSortedSets
