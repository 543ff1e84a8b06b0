use Rattle.std.proofs.Common.{◌≡◌, ◌≢◌, true, IfErr, IfOk, OnOk, slice_get, subst, sym}
use Rattle.std.proofs.Math.Logic.{∥∥₁_elim, ∥∥₁_map}
use Rattle.domain_changes.specs.fileset_table.Table.{Table}
use Rattle.domain_changes.specs.domain_layout.CellRules.{of_original}
use Rattle.domain_changes.specs.domain_memory.Kept.{KeepsKept}
use Rattle.domain_changes.specs.domain_memory.declared.memory.DomainMemory.{DomainMemory}
use Rattle.domain_changes.proofs.OfDomainMemory.KeptStands.{kept_joined}
use Rattle.domain_changes.specs.name_space.Changes.{taking_checks}
use Rattle.domain_changes.specs.name_space.declared.fault.NameFault.TheVariants as fault
use Rattle.name_changes.proofs.Books.{named_path}
use Rattle.name_changes.specs.Stages.{IsRefused, KeepsParents, Removes}
use Rattle.name_commands.specs.Ending.{EndsAs}
use Rattle.name_commands.specs.Leaving.{taking}
use Rattle.name_commands.specs.declared.stop.Stop.TheVariants.{NoPage}
use Rattle.name_commands.proofs.Given.{given, original_of_named}
use Rattle.name_commands.proofs.Removal.{found, staged_some}
use Rattle.name_commands.proofs.Taken.{answers_taken, enough_taken, its_share, stops_without, taking_stops}
use Rattle.name_commands.proofs.taking.take_led.Goals as goal
use Rattle.name_commands.proofs.taking.take_led.Goals.{in-Ok-taken, in-Err-taken}

pub share_of-requires-clause-stands : goal.share_of-requires-clause-stands
share_of-requires-clause-stands c = staged_some c.args.memory c.requires.settled c.requires.stands

pub share_of-requires-clause-original : goal.share_of-requires-clause-original
share_of-requires-clause-original c = original_of_named (slice_get c.args.memory.table.slots c.args.number) c.args.place.now.fileset (found c.args.memory c.args.number c.args.place.now.fileset (staged_some c.args.memory c.requires.settled c.requires.stands) c.requires.named)

pub take_path-memory-requires-clause-stands : goal.take_path-memory-requires-clause-stands
take_path-memory-requires-clause-stands c = staged_some c.args.memory c.requires.settled c.requires.stands

pub take_path-memory-requires-clause-original : goal.take_path-memory-requires-clause-original
take_path-memory-requires-clause-original c = original_of_named (slice_get c.args.memory.table.slots c.args.number) c.args.place.now.fileset (found c.args.memory c.args.number c.args.place.now.fileset (staged_some c.args.memory c.requires.settled c.requires.stands) c.requires.named)

pub refund_gone-requires-clause-stands : goal.refund_gone-requires-clause-stands
refund_gone-requires-clause-stands c = ∥∥₁_map c.requires.stands (λ s.
    let g = given c.args.memory c.args.number c.args.place.now.fileset (found c.args.memory c.args.number c.args.place.now.fileset (staged_some c.args.memory c.requires.settled c.requires.stands) c.requires.named) c.requires.settled c.requires.back s.0 s.1 in
    let it : Removes (taking_checks c.args.of c.args.place.now.path) c.args.place.now.path s.0 g.entry g.fileset c.take_path-memory.result.0 c.in-Ok-taken.taken.tag c.in-Ok-taken.taken.gone = subst (λ r. IfOk r (λ answer. Removes (taking_checks c.args.of c.args.place.now.path) c.args.place.now.path s.0 g.entry g.fileset c.take_path-memory.result.0 answer.tag answer.gone)) c.in-Ok-taken.is (c.take_path-memory.ensures.ok s.0 g.entry g.fileset g.has) in
    (_, it.staged))

pub refund_gone-requires-clause-original : goal.refund_gone-requires-clause-original
refund_gone-requires-clause-original c =
    subst (λ (t : Table). of_original (slice_get t.slots c.args.number) ≡ true) (sym c.take_path-memory.ensures.table) (original_of_named (slice_get c.args.memory.table.slots c.args.number) c.args.place.now.fileset (found c.args.memory c.args.number c.args.place.now.fileset (staged_some c.args.memory c.requires.settled c.requires.stands) c.requires.named))

pub refund_gone-requires-clause-enough : goal.refund_gone-requires-clause-enough
refund_gone-requires-clause-enough c = λ is. ∥∥₁_map c.requires.stands (λ s.
    let g = given c.args.memory c.args.number c.args.place.now.fileset (found c.args.memory c.args.number c.args.place.now.fileset (staged_some c.args.memory c.requires.settled c.requires.stands) c.requires.named) c.requires.settled c.requires.back s.0 s.1 in
    let it : Removes (taking_checks c.args.of c.args.place.now.path) c.args.place.now.path s.0 g.entry g.fileset c.take_path-memory.result.0 c.in-Ok-taken.taken.tag c.in-Ok-taken.taken.gone = subst (λ r. IfOk r (λ answer. Removes (taking_checks c.args.of c.args.place.now.path) c.args.place.now.path s.0 g.entry g.fileset c.take_path-memory.result.0 answer.tag answer.gone)) c.in-Ok-taken.is (c.take_path-memory.ensures.ok s.0 g.entry g.fileset g.has) in
    enough_taken c.args.memory c.args.number c.args.place.now s.0 g c.args.of (named_path c.args.place.now.path c.requires.some) c.in-Ok.share
    (its_share c.args.memory c.args.number c.args.place.now s.0 g c.args.tag c.args.kind c.in-Ok.share (c.requires.leads s.0 g.entry g.fileset g.has) (λ has leads. c.in-Ok.ensures c.args.place.now.path s.0 g.entry g.fileset has leads))
    c.take_path-memory.result.0 c.in-Ok-taken.taken.tag c.in-Ok-taken.taken.gone it c.take_path-memory.ensures.counted is)

pub returns-clause-ends : goal.returns-clause-ends
returns-clause-ends c = λ all stands.
    let g = given c.args.memory c.args.number c.args.place.now.fileset (found c.args.memory c.args.number c.args.place.now.fileset (staged_some c.args.memory c.requires.settled c.requires.stands) c.requires.named) c.requires.settled c.requires.back all stands in
    let command = taking c.args.of c.args.place.now in
    let share = its_share c.args.memory c.args.number c.args.place.now all g c.args.tag c.args.kind c.in-Ok.share (c.requires.leads all g.entry g.fileset g.has) (λ has leads. c.in-Ok.ensures c.args.place.now.path all g.entry g.fileset has leads) in
    elim c.match-taken.branch [
      | in-Ok-taken w ↦
          let it : Removes (taking_checks c.args.of c.args.place.now.path) c.args.place.now.path all g.entry g.fileset c.take_path-memory.result.0 w.in-Ok-taken.taken.tag w.in-Ok-taken.taken.gone = subst (λ r. IfOk r (λ answer. Removes (taking_checks c.args.of c.args.place.now.path) c.args.place.now.path all g.entry g.fileset c.take_path-memory.result.0 answer.tag answer.gone)) w.in-Ok-taken.is (c.take_path-memory.ensures.ok all g.entry g.fileset g.has) in
          subst (λ (m : DomainMemory). EndsAs m all command c.match-taken.answer) (sym w.memory-is)
          (subst (EndsAs w.refund_gone.new.memory all command) (sym w.answer-is)
          (answers_taken c.args.memory c.args.number c.args.place.now all g c.args.of (named_path c.args.place.now.path c.requires.some) c.in-Ok.share share c.take_path-memory.result.0 w.in-Ok-taken.taken.tag w.in-Ok-taken.taken.gone it w.refund_gone.new.memory
          (subst (λ r. OnOk r (KeepsParents c.args.memory c.take_path-memory.result.0)) w.in-Ok-taken.is c.take_path-memory.ensures.parents) c.take_path-memory.ensures.table c.take_path-memory.ensures.counted w.refund_gone.ensures.gone w.refund_gone.ensures.left w.refund_gone.ensures.domain w.refund_gone.ensures.staged))
      | in-Err-taken w ↦
          subst (EndsAs c.match-taken.memory all command) (sym w.answer-is)
          (taking_stops c.args.memory c.args.number c.args.place.now all g c.args.of w.stop_for.result
          (w.stop_for.ensures (taking_checks c.args.of c.args.place.now.path) g.fileset
          (subst (λ r. IfErr r (IsRefused (taking_checks c.args.of c.args.place.now.path) g.fileset)) w.in-Err-taken.is (c.take_path-memory.ensures.err all g.entry g.fileset g.has))))
    ]

pub returns-clause-pages : goal.returns-clause-pages
returns-clause-pages c = elim c.match-taken.branch [
  | in-Ok-taken w ↦ subst (λ r. IfErr r (λ stop. stop ≢ NoPage)) (sym w.answer-is) tt
  | in-Err-taken w ↦ subst (λ r. IfErr r (λ stop. stop ≢ NoPage)) (sym w.answer-is) (λ wanted. ∥∥₁_elim c.requires.stands (λ x y. absurd x) (λ s.
      let g = given c.args.memory c.args.number c.args.place.now.fileset (found c.args.memory c.args.number c.args.place.now.fileset (staged_some c.args.memory c.requires.settled c.requires.stands) c.requires.named) c.requires.settled c.requires.back s.0 s.1 in
      stops_without w.in-Err-taken.fault (subst (λ r. IfErr r (λ f. f ≢ fault.NoPage)) w.in-Err-taken.is c.take_path-memory.ensures.pages) g.fileset w.stop_for.result w.stop_for.ensures wanted))
]

pub returns-clause-kept : goal.returns-clause-kept
returns-clause-kept c =
    elim c.match-taken.branch [
      | in-Ok-taken w ↦ subst (λ (m : DomainMemory). ∥ KeepsKept c.args.memory m ∥₁) (sym w.memory-is)
          (∥∥₁_map c.take_path-memory.ensures.kept (λ k. kept_joined c.args.memory c.take_path-memory.result.0 w.refund_gone.new.memory k w.refund_gone.ensures.kept))
      | in-Err-taken w ↦ subst (λ (m : DomainMemory). ∥ KeepsKept c.args.memory m ∥₁) (sym w.memory-is) c.take_path-memory.ensures.kept
    ]
