use Rattle.std.proofs.Math.Logic.{∥∥₁_map}
use Rattle.domain_changes.proofs.OfDomainMemory.SettledKept.{settled_kept}
use Rattle.release_changes.proofs.emptying.empty_some.Goals as goal

pub slot_to_empty-requires-clause-ready : goal.slot_to_empty-requires-clause-ready
slot_to_empty-requires-clause-ready c = ∥∥₁_map c.requires.stands (λ s. (s.0, settled_kept c.args.memory.now s.0 c.requires.settled s.1))
