-- What is named above of the proofs of no_faults.
pub use Rattle.no_faults.proofs.FaultNamed
pub use Rattle.no_faults.proofs.FaultOnTables
pub use Rattle.no_faults.proofs.InChains
pub use Rattle.no_faults.proofs.NoCells
pub use Rattle.no_faults.proofs.NoTable
pub use Rattle.no_faults.proofs.Originals
pub use Rattle.no_faults.proofs.Shown
pub use Rattle.no_faults.proofs.Tags
pub use Rattle.no_faults.proofs.WholeDomain
