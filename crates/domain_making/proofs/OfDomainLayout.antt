-- What is named above of the proofs of domain_layout.
pub use Rattle.domain_layout.proofs.NewCells
pub use Rattle.domain_layout.proofs.NewDomain
pub use Rattle.domain_layout.proofs.OnePage
pub use Rattle.domain_layout.proofs.OneTable
pub use Rattle.domain_layout.proofs.There
