-- What is named above of the proofs of standing_laws.
pub use Rattle.domain_memory.proofs.OfStandingLaws.AllStay
pub use Rattle.domain_memory.proofs.OfStandingLaws.BitsStay
pub use Rattle.domain_memory.proofs.OfStandingLaws.FilesetBegins
pub use Rattle.domain_memory.proofs.OfStandingLaws.FilesetPut
pub use Rattle.domain_memory.proofs.OfStandingLaws.HomeLists
pub use Rattle.domain_memory.proofs.OfStandingLaws.IndexSet
pub use Rattle.domain_memory.proofs.OfStandingLaws.IndexSpaces
pub use Rattle.domain_memory.proofs.OfStandingLaws.IndexWas
pub use Rattle.domain_memory.proofs.OfStandingLaws.IndexWell
pub use Rattle.domain_memory.proofs.OfStandingLaws.ParentsBegin
pub use Rattle.domain_memory.proofs.OfStandingLaws.ParentsElsewhere
pub use Rattle.domain_memory.proofs.OfStandingLaws.SlotStays
pub use Rattle.domain_memory.proofs.OfStandingLaws.SlotTogether
pub use Rattle.domain_memory.proofs.OfStandingLaws.SoundKept
pub use Rattle.domain_memory.proofs.OfStandingLaws.SoundParted
pub use Rattle.domain_memory.proofs.OfStandingLaws.SourcesSaid
pub use Rattle.domain_memory.proofs.OfStandingLaws.TablesStand
