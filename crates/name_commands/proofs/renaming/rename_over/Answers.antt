use Rattle.std.proofs.Common.{◌≡◌, ◌∙◌, true, IfErr, IfOk, OnOk, slice_get, subst, sym}
use Rattle.std.proofs.Math.Logic.{∥∥₁_map}
use Rattle.domain_changes.specs.fileset_model.Apply.{rename_checks}
use Rattle.domain_changes.specs.fileset_values.declared.command.Command.TheVariants.{Rename}
use Rattle.domain_changes.specs.fileset_table.Table.{Table}
use Rattle.domain_changes.specs.domain_layout.CellRules.{of_original}
use Rattle.domain_changes.specs.domain_memory.Kept.{KeepsKept}
use Rattle.domain_changes.specs.domain_memory.declared.memory.DomainMemory.{DomainMemory}
use Rattle.domain_changes.proofs.OfDomainMemory.KeptStands.{kept_joined}
use Rattle.name_changes.proofs.Books.{named_path}
use Rattle.name_changes.specs.Stages.{IsRefused, KeepsParents, Renames}
use Rattle.name_commands.specs.Ending.{EndsAs}
use Rattle.name_commands.proofs.Given.{given, original_of_named}
use Rattle.name_commands.proofs.Removal.{found, staged_some}
use Rattle.name_commands.proofs.Renamed.{answers_renamed, enough_replaced, rename_stops}
use Rattle.name_commands.proofs.renaming.rename_over.Goals as goal
use Rattle.name_commands.proofs.renaming.rename_over.Goals.{in-Ok, in-Err}

pub rename-memory-requires-clause-stands : goal.rename-memory-requires-clause-stands
rename-memory-requires-clause-stands c = staged_some c.args.memory c.requires.settled c.requires.stands

pub rename-memory-requires-clause-original : goal.rename-memory-requires-clause-original
rename-memory-requires-clause-original c = original_of_named (slice_get c.args.memory.table.slots c.args.number) c.args.place.now.fileset (found c.args.memory c.args.number c.args.place.now.fileset (staged_some c.args.memory c.requires.settled c.requires.stands) c.requires.slot)

pub refund_gone-requires-clause-stands : goal.refund_gone-requires-clause-stands
refund_gone-requires-clause-stands c = ∥∥₁_map c.requires.stands (λ s.
    let g = given c.args.memory c.args.number c.args.place.now.fileset (found c.args.memory c.args.number c.args.place.now.fileset (staged_some c.args.memory c.requires.settled c.requires.stands) c.requires.slot) c.requires.settled c.requires.back s.0 s.1 in
    let it : Renames c.args.place.now.path c.args.to.now s.0 g.entry g.fileset c.rename-memory.result.0 c.in-Ok.moved = subst (λ r. IfOk r (λ answer. Renames c.args.place.now.path c.args.to.now s.0 g.entry g.fileset c.rename-memory.result.0 answer)) c.in-Ok.is (c.rename-memory.ensures.ok s.0 g.entry g.fileset g.has) in
    (_, it.staged))

pub refund_gone-requires-clause-original : goal.refund_gone-requires-clause-original
refund_gone-requires-clause-original c =
    subst (λ (t : Table). of_original (slice_get t.slots c.args.number) ≡ true) (sym c.rename-memory.ensures.table) (original_of_named (slice_get c.args.memory.table.slots c.args.number) c.args.place.now.fileset (found c.args.memory c.args.number c.args.place.now.fileset (staged_some c.args.memory c.requires.settled c.requires.stands) c.requires.slot))

pub refund_gone-requires-clause-enough : goal.refund_gone-requires-clause-enough
refund_gone-requires-clause-enough c = λ is. ∥∥₁_map c.requires.stands (λ s.
    let g = given c.args.memory c.args.number c.args.place.now.fileset (found c.args.memory c.args.number c.args.place.now.fileset (staged_some c.args.memory c.requires.settled c.requires.stands) c.requires.slot) c.requires.settled c.requires.back s.0 s.1 in
    let it : Renames c.args.place.now.path c.args.to.now s.0 g.entry g.fileset c.rename-memory.result.0 c.in-Ok.moved = subst (λ r. IfOk r (λ answer. Renames c.args.place.now.path c.args.to.now s.0 g.entry g.fileset c.rename-memory.result.0 answer)) c.in-Ok.is (c.rename-memory.ensures.ok s.0 g.entry g.fileset g.has) in
    enough_replaced c.args.memory c.args.number c.args.place.now c.args.to.now s.0 g (named_path c.args.place.now.path c.requires.some) (named_path c.args.to.now c.requires.named.0) c.args.share (c.requires.share s.0 g.entry g.fileset g.has) c.rename-memory.result.0 c.in-Ok.moved it
    c.rename-memory.ensures.counted (sym c.is_some.ensures ∙ is))

pub returns-clause-ends : goal.returns-clause-ends
returns-clause-ends c = λ all stands.
    let g = given c.args.memory c.args.number c.args.place.now.fileset (found c.args.memory c.args.number c.args.place.now.fileset (staged_some c.args.memory c.requires.settled c.requires.stands) c.requires.slot) c.requires.settled c.requires.back all stands in
    let command = Rename c.args.place.now c.args.to.now in
    elim c.match-moved.branch [
      | in-Ok w ↦
          let it : Renames c.args.place.now.path c.args.to.now all g.entry g.fileset c.rename-memory.result.0 w.in-Ok.moved = subst (λ r. IfOk r (λ answer. Renames c.args.place.now.path c.args.to.now all g.entry g.fileset c.rename-memory.result.0 answer)) w.in-Ok.is (c.rename-memory.ensures.ok all g.entry g.fileset g.has) in
          subst (λ (m : DomainMemory). EndsAs m all command c.match-moved.answer) (sym w.memory-is)
          (subst (EndsAs w.refund_gone.new.memory all command) (sym w.answer-is)
          (answers_renamed c.args.memory c.args.number c.args.place.now c.args.to.now all g (named_path c.args.place.now.path c.requires.some) (named_path c.args.to.now c.requires.named.0) c.args.share (c.requires.share all g.entry g.fileset g.has) c.rename-memory.result.0 w.in-Ok.moved it w.refund_gone.new.memory
          (subst (λ r. OnOk r (KeepsParents c.args.memory c.rename-memory.result.0)) w.in-Ok.is c.rename-memory.ensures.parents) c.rename-memory.ensures.table c.rename-memory.ensures.counted (λ is. w.refund_gone.ensures.gone (w.is_some.ensures ∙ is)) (λ is. w.refund_gone.ensures.left (w.is_some.ensures ∙ is))
          w.refund_gone.ensures.domain w.refund_gone.ensures.staged))
      | in-Err w ↦
          subst (EndsAs c.match-moved.memory all command) (sym w.answer-is)
          (rename_stops c.args.memory c.args.number c.args.place.now c.args.to.now all g w.stop_for.result
          (w.stop_for.ensures (rename_checks c.args.place.now.path c.args.to.now) g.fileset
          (subst (λ r. IfErr r (IsRefused (rename_checks c.args.place.now.path c.args.to.now) g.fileset)) w.in-Err.is (c.rename-memory.ensures.err all g.entry g.fileset g.has))))
    ]

pub returns-clause-kept : goal.returns-clause-kept
returns-clause-kept c =
    elim c.match-moved.branch [
      | in-Ok w ↦ subst (λ (m : DomainMemory). ∥ KeepsKept c.args.memory m ∥₁) (sym w.memory-is)
          (∥∥₁_map c.rename-memory.ensures.kept (λ k. kept_joined c.args.memory c.rename-memory.result.0 w.refund_gone.new.memory k w.refund_gone.ensures.kept))
      | in-Err w ↦ subst (λ (m : DomainMemory). ∥ KeepsKept c.args.memory m ∥₁) (sym w.memory-is) c.rename-memory.ensures.kept
    ]
