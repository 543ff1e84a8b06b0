use Rattle.std.proofs.Common.{ap, arith, refl, sym, subst}
use Rattle.domain_changes.specs.free_space.Spaces.{Spaces}
use Rattle.domain_changes.specs.domain_memory.Held.{held_open}
use Rattle.domain_changes.proofs.OfDomainMemory.Held.{held_freed}
use Rattle.domain_changes.specs.domain_memory.Going.{NoneWaits}
use Rattle.release_changes.proofs.Freed.{freed_settled, freed_stands, none_waits}
use Rattle.release_changes.proofs.releasing.free_waiting.Goals as goal

pub returns-clause-stands : goal.returns-clause-stands
returns-clause-stands c = λ all stood. let memory = c.args.memory.now in freed_stands memory (record memory { space = c.free_waiting.new.self }) refl c.free_waiting.ensures c.requires.settled all stood

pub returns-clause-none : goal.returns-clause-none
returns-clause-none c = subst (λ (s : Spaces). NoneWaits s) (sym c.free_waiting.ensures) (none_waits c.args.memory.now.space)

pub returns-clause-settled : goal.returns-clause-settled
returns-clause-settled c = let memory = c.args.memory.now in freed_settled memory (record memory { space = c.free_waiting.new.self }) refl c.free_waiting.ensures c.requires.settled

pub returns-clause-held : goal.returns-clause-held
returns-clause-held c =
    let less = held_freed c.args.memory.now.space c.misses.ensures.sound in
    let is = ap held_open c.free_waiting.ensures in
    omega (arith, less, is)
