use Rattle.std.proofs.Common.{◌≡◌, true, IfErr, IfOk, OnOk, slice_get, subst, sym}
use Rattle.std.proofs.Math.Logic.{∥∥₁_map}
use Rattle.domain_changes.specs.fileset_table.Table.{Table}
use Rattle.domain_changes.specs.domain_layout.CellRules.{of_original}
use Rattle.domain_changes.specs.domain_memory.Kept.{KeepsKept}
use Rattle.domain_changes.specs.domain_memory.declared.memory.DomainMemory.{DomainMemory}
use Rattle.domain_changes.proofs.OfDomainMemory.KeptStands.{kept_joined}
use Rattle.domain_changes.specs.name_space.Changes.{free_checks, new_node}
use Rattle.name_changes.specs.Stages.{Creates, IsRefused, KeepsParents}
use Rattle.name_commands.specs.Ending.{EndsAs, StopsAs}
use Rattle.name_commands.specs.Naming.{creation}
use Rattle.name_commands.proofs.Created.{creation_stops, ends_made, no_creation}
use Rattle.name_commands.proofs.Given.{given, original_of_named}
use Rattle.name_commands.proofs.Removal.{found, staged_some}
use Rattle.name_commands.proofs.creating.stage_creation.Goals as goal
use Rattle.name_commands.proofs.creating.stage_creation.Goals.{in-Ok-made, in-Err-made}

pub returns-in-Err-clause-ends : goal.returns-in-Err-clause-ends
returns-in-Err-clause-ends c = λ all stands.
    subst (StopsAs all (creation c.args.kind c.args.place.now c.args.uid c.args.gid)) (sym c.in-Err.ensures.none.0)
    (no_creation c.args.memory c.args.place.now c.args.uid c.args.gid c.requires.settled c.in-Err.ensures.none.1 all stands c.args.kind)

pub ask_quota-over-requires-clause-stands : goal.ask_quota-over-requires-clause-stands
ask_quota-over-requires-clause-stands c = staged_some c.args.memory c.requires.settled c.requires.stands

pub ask_quota-over-requires-clause-original : goal.ask_quota-over-requires-clause-original
ask_quota-over-requires-clause-original c =
    original_of_named (slice_get c.args.memory.table.slots c.in-Ok.number) c.args.place.now.fileset (found c.args.memory c.in-Ok.number c.args.place.now.fileset (staged_some c.args.memory c.requires.settled c.requires.stands) c.in-Ok.ensures.there)

pub create-memory-requires-clause-stands : goal.create-memory-requires-clause-stands
create-memory-requires-clause-stands c = staged_some c.args.memory c.requires.settled c.requires.stands

pub create-memory-requires-clause-original : goal.create-memory-requires-clause-original
create-memory-requires-clause-original c =
    original_of_named (slice_get c.args.memory.table.slots c.in-Ok.number) c.args.place.now.fileset (found c.args.memory c.in-Ok.number c.args.place.now.fileset (staged_some c.args.memory c.requires.settled c.requires.stands) c.in-Ok.ensures.there)

pub charge_new-answer-requires-clause-stands : goal.charge_new-answer-requires-clause-stands
charge_new-answer-requires-clause-stands c =
    let h = found c.args.memory c.in-Ok.number c.args.place.now.fileset (staged_some c.args.memory c.requires.settled c.requires.stands) c.in-Ok.ensures.there in
    ∥∥₁_map c.requires.stands (λ s.
    let g = given c.args.memory c.in-Ok.number c.args.place.now.fileset h c.requires.settled c.requires.back s.0 s.1 in
    let it : Creates c.args.place.now.path (new_node c.args.kind c.args.uid c.args.gid) s.0 g.entry g.fileset c.create-memory.result.0 c.in-Ok-made.field-0 =
    subst (λ r. IfOk r (λ made. Creates c.args.place.now.path (new_node c.args.kind c.args.uid c.args.gid) s.0 g.entry g.fileset c.create-memory.result.0 made)) c.in-Ok-made.is (c.create-memory.ensures.ok s.0 g.entry g.fileset g.has) in
    (_, it.staged))

pub charge_new-answer-requires-clause-original : goal.charge_new-answer-requires-clause-original
charge_new-answer-requires-clause-original c =
    let h = found c.args.memory c.in-Ok.number c.args.place.now.fileset (staged_some c.args.memory c.requires.settled c.requires.stands) c.in-Ok.ensures.there in
    subst (λ (t : Table). of_original (slice_get t.slots c.in-Ok.number) ≡ true) (sym c.create-memory.ensures.table) (original_of_named (slice_get c.args.memory.table.slots c.in-Ok.number) c.args.place.now.fileset h)

pub returns-clause-ends : goal.returns-clause-ends
returns-clause-ends c = λ all stands.
    let h = found c.args.memory c.in-Ok.number c.args.place.now.fileset (staged_some c.args.memory c.requires.settled c.requires.stands) c.in-Ok.ensures.there in
    let g = given c.args.memory c.in-Ok.number c.args.place.now.fileset h c.requires.settled c.requires.back all stands in
    let asked = c.ask_quota-over.ensures.asked all g.entry g.fileset g.has.original g.has.there g.kept.books in
    let command = creation c.args.kind c.args.place.now c.args.uid c.args.gid in
    elim c.match-made.branch [
      | in-Ok-made w ↦
          let it : Creates c.args.place.now.path (new_node c.args.kind c.args.uid c.args.gid) all g.entry g.fileset c.create-memory.result.0 w.in-Ok-made.field-0 =
          subst (λ r. IfOk r (λ made. Creates c.args.place.now.path (new_node c.args.kind c.args.uid c.args.gid) all g.entry g.fileset c.create-memory.result.0 made)) w.in-Ok-made.is (c.create-memory.ensures.ok all g.entry g.fileset g.has) in
          subst (λ (m : DomainMemory). EndsAs m all command c.match-made.answer) (sym w.memory-is)
          (subst (EndsAs w.charge_new-answer.new.memory all command) (sym w.answer-is)
          (ends_made c.args.memory c.create-memory.result.0 w.charge_new-answer.new.memory c.in-Ok.number c.args.place.now all g c.args.kind c.args.uid c.args.gid w.in-Ok-made.field-0 c.requires.named it
          (subst (λ r. OnOk r (KeepsParents c.args.memory c.create-memory.result.0)) w.in-Ok-made.is c.create-memory.ensures.parents) c.create-memory.ensures.table c.create-memory.ensures.counted w.charge_new-answer.ensures.domain w.charge_new-answer.ensures.staged
          c.ask_quota-over.result asked w.charge_new-answer.result w.charge_new-answer.ensures.ok w.charge_new-answer.ensures.err))
      | in-Err-made w ↦
          let refused = subst (λ r. IfErr r (IsRefused (free_checks c.args.place.now.path) g.fileset)) w.in-Err-made.is (c.create-memory.ensures.err all g.entry g.fileset g.has) in
          subst (EndsAs c.match-made.memory all command) (sym w.answer-is)
          (creation_stops c.args.memory c.in-Ok.number c.args.place.now all g c.args.uid c.args.gid c.args.kind c.ask_quota-over.result w.stop_for.result asked
          (w.stop_for.ensures (free_checks c.args.place.now.path) g.fileset refused))
    ]

pub returns-clause-kept : goal.returns-clause-kept
returns-clause-kept c =
    elim c.match-made.branch [
      | in-Ok-made w ↦ subst (λ (m : DomainMemory). ∥ KeepsKept c.args.memory m ∥₁) (sym w.memory-is)
          (∥∥₁_map c.create-memory.ensures.kept (λ k. kept_joined c.args.memory c.create-memory.result.0 w.charge_new-answer.new.memory k w.charge_new-answer.ensures.kept))
      | in-Err-made w ↦ subst (λ (m : DomainMemory). ∥ KeepsKept c.args.memory m ∥₁) (sym w.memory-is) c.create-memory.ensures.kept
    ]
