-- What is named above of the proofs of index_row_faults.
pub use Rattle.index_row_faults.proofs.IndexSlots
