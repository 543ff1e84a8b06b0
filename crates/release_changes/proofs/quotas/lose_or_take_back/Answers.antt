use Rattle.std.proofs.Math.Logic.{∥∥₁_map}
use Rattle.domain_changes.proofs.OfDomainMemory.KeptStands.{stands_so, stands_still}
use Rattle.domain_changes.proofs.OfDomainMemory.SettledKept.{settled_kept}
use Rattle.release_changes.proofs.HeldStill.{back_held}
use Rattle.release_changes.proofs.quotas.lose_or_take_back.Goals as goal

pub lose_quota_cell-requires-clause-ready : goal.lose_quota_cell-requires-clause-ready
lose_quota_cell-requires-clause-ready c = ∥∥₁_map c.requires.stands (λ s. (s.0, settled_kept c.args.memory.now s.0 c.requires.settled s.1))

pub returns-in_default-clause-stands : goal.returns-in_default-clause-stands
returns-in_default-clause-stands c = λ all stood.
    stands_still c.lose_quota_cell.new.memory c.take_back.new.self all c.take_back.ensures.kept c.take_back.ensures.books
    (stands_so c.args.memory.now c.lose_quota_cell.new.memory c.lose_quota_cell.ensures.kept all stood)

pub returns-in_default-clause-held : goal.returns-in_default-clause-held
returns-in_default-clause-held c =
    back_held c.args.memory.now c.take_back.new.self c.requires.settled c.lose_quota_cell.new.memory c.lose_quota_cell.ensures.kept c.take_back.ensures.kept c.take_back.ensures.settled

pub returns-clause-ok : goal.returns-clause-ok
returns-clause-ok c = λ all stood. c.in-Ok.ensures.ok all (settled_kept c.args.memory.now all c.requires.settled stood)
