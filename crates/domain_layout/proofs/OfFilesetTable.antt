-- What is named above of the proofs of fileset_table.
pub use Rattle.fileset_table.proofs.Changing
pub use Rattle.fileset_table.proofs.Joining
pub use Rattle.fileset_table.proofs.Leaving
pub use Rattle.fileset_table.proofs.NewTable
pub use Rattle.fileset_table.proofs.Tried
pub use Rattle.fileset_table.proofs.Unique
