-- What is named above of the proofs of domain_layout.
pub use Rattle.domain_layout.proofs.CellsAlike
pub use Rattle.domain_layout.proofs.Files
pub use Rattle.domain_layout.proofs.FilledAlike
pub use Rattle.domain_layout.proofs.Named
pub use Rattle.domain_layout.proofs.NoTables
pub use Rattle.domain_layout.proofs.OneMeaning
pub use Rattle.domain_layout.proofs.OnePage
pub use Rattle.domain_layout.proofs.OneShape
pub use Rattle.domain_layout.proofs.Owned
pub use Rattle.domain_layout.proofs.OwnedOnce
pub use Rattle.domain_layout.proofs.Reached
pub use Rattle.domain_layout.proofs.SameFaults
pub use Rattle.domain_layout.proofs.Sides
pub use Rattle.domain_layout.proofs.TablesAgree
