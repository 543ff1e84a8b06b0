use Rattle.std.proofs.Common.{subst, sym}
use Rattle.std.proofs.Math.Logic.{∥∥₁_map}
use Rattle.domain_changes.specs.domain_memory.Staged.{staged_in}
use Rattle.domain_changes.proofs.OfDomainMemory.SettledKept.{settled_kept}
use Rattle.name_changes.proofs.Same.{still_keeps}
use Rattle.name_commands.specs.Ending.{StopsAs}
use Rattle.name_commands.proofs.Given.{given}
use Rattle.name_commands.proofs.Means.{missing}
use Rattle.name_commands.proofs.PlacedThere.{same_itself}
use Rattle.name_commands.proofs.Removal.{found, staged_some}
use Rattle.name_commands.proofs.rooted.refuse_root.Goals as goal

pub returns-in-Ok-clause-ends : goal.returns-in-Ok-clause-ends
returns-in-Ok-clause-ends c = λ command is all stands.
    let g = given c.args.memory c.in-Ok._number c.args.fileset.now (found c.args.memory c.in-Ok._number c.args.fileset.now (staged_some c.args.memory c.requires.settled c.requires.stands) c.in-Ok.ensures.there) c.requires.settled c.requires.back all stands in
    is.there all g.fileset g.here g.role g.valid

pub returns-in-Ok-clause-kept : goal.returns-in-Ok-clause-kept
returns-in-Ok-clause-kept c = ∥∥₁_map c.requires.back (λ m. still_keeps c.args.memory c.args.memory (same_itself c.args.memory))

pub returns-in-Err-clause-ends : goal.returns-in-Err-clause-ends
returns-in-Err-clause-ends c = λ command is all stands.
    let slots = (settled_kept c.args.memory all c.requires.settled stands).staged.stands.slots in
    subst (StopsAs all command) (sym c.in-Err.ensures.none.0) (is.none all (missing (staged_in c.args.memory) all slots c.args.fileset.now c.in-Err.ensures.none.1))

pub returns-in-Err-clause-kept : goal.returns-in-Err-clause-kept
returns-in-Err-clause-kept c = ∥∥₁_map c.requires.back (λ m. still_keeps c.args.memory c.args.memory (same_itself c.args.memory))
