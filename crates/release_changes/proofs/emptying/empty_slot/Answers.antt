use Rattle.std.proofs.Common.{◌≡◌, ◌≤◌, arith, subst, sym}
use Rattle.std.proofs.Math.Logic.{∥∥₁_map}
use Rattle.domain_changes.proofs.OfDomainMemory.KeptStands.{stands_so, stands_still}
use Rattle.domain_changes.proofs.OfDomainMemory.SettledKept.{settled_kept}
use Rattle.domain_changes.specs.domain_memory.Held.{held_open}
use Rattle.domain_changes.specs.domain_memory.Memory.{StandsFor}
use Rattle.domain_changes.specs.domain_memory.Staged.{IsStagedForSome, MayBeKept}
use Rattle.domain_changes.specs.domain_memory.declared.memory.DomainMemory.{DomainMemory}
use Rattle.domain_changes.specs.domain_memory.Going.{MayEmpty}
use Rattle.release_changes.specs.LettingGo.{StandsForAny}
use Rattle.release_changes.proofs.Emptied.{end_empties, tags_empty}
use Rattle.release_changes.proofs.HeldStill.{back_held, kept_held}
use Rattle.release_changes.proofs.emptying.empty_slot.Goals as goal
use Rattle.release_changes.proofs.emptying.empty_slot.Goals.{then-count-eq0+in_ok-end_slot, else-count-eq0}

pub take_tags_out-requires-clause-ready : goal.take_tags_out-requires-clause-ready
take_tags_out-requires-clause-ready c = ∥∥₁_map c.requires.stands (λ s. (s.0, settled_kept c.args.memory.now s.0 c.requires.settled s.1))

pub returns-in_default-clause-stands : goal.returns-in_default-clause-stands
returns-in_default-clause-stands c = λ all stood.
    stands_still c.take_tags_out.new.memory c.take_back.new.self all c.take_back.ensures.kept c.take_back.ensures.books
    (stands_so c.args.memory.now c.take_tags_out.new.memory c.in_default.ensures.kept all stood)

pub end_slot-requires-clause-stands : goal.end_slot-requires-clause-stands
end_slot-requires-clause-stands c =
    let zero : c.in-Ok.count ≡ 0 = omega (arith, c.if-count-eq0.true) in
    subst (λ (m : DomainMemory). ∥ StandsForAny m ∥₁) (sym (c.in-Ok.ensures.same zero)) c.requires.stands

pub end_slot-requires-clause-may : goal.end_slot-requires-clause-may
end_slot-requires-clause-may c =
    let zero : c.in-Ok.count ≡ 0 = omega (arith, c.if-count-eq0.true) in
    subst (λ (m : DomainMemory). MayEmpty m c.args.number) (sym (c.in-Ok.ensures.same zero)) c.requires.may

pub returns-in_err-end_slot-clause-stands : goal.returns-in_err-end_slot-clause-stands
returns-in_err-end_slot-clause-stands c = λ all stood.
    let zero : c.in-Ok.count ≡ 0 = omega (arith, c.if-count-eq0.true) in
    c.in_err-end_slot.ensures.stands all (subst (λ (m : DomainMemory). StandsFor m all) (sym (c.in-Ok.ensures.same zero)) stood)

pub keep-requires-clause-staged : goal.keep-requires-clause-staged
keep-requires-clause-staged c = elim c.if-count-eq0.branch [
  | then-count-eq0+in_ok-end_slot w ↦
      let zero : c.in-Ok.count ≡ 0 = omega (arith, w.if-count-eq0.true) in
      subst (λ (m : DomainMemory). ∥ IsStagedForSome m ∥₁) (sym w.memory-is)
      (∥∥₁_map c.requires.stands (λ s. (s.0, (w.in_ok-end_slot.ensures.ok s.0 (subst (λ (m : DomainMemory). StandsFor m s.0) (sym (c.in-Ok.ensures.same zero)) s.1)).staged)))
  | else-count-eq0 w ↦
      subst (λ (m : DomainMemory). ∥ IsStagedForSome m ∥₁) (sym w.memory-is)
      (∥∥₁_map c.requires.stands (λ s. (s.0, (c.in-Ok.ensures.ok s.0 (settled_kept c.args.memory.now s.0 c.requires.settled s.1)).staged)))
]

pub returns-clause-stands : goal.returns-clause-stands
returns-clause-stands c = λ all stood. c.keep.ensures.stands all (elim c.if-count-eq0.branch [
  | then-count-eq0+in_ok-end_slot w ↦
      let zero : c.in-Ok.count ≡ 0 = omega (arith, w.if-count-eq0.true) in
      subst (λ (m : DomainMemory). MayBeKept m all) (sym w.memory-is)
      (w.in_ok-end_slot.ensures.ok all (subst (λ (m : DomainMemory). StandsFor m all) (sym (c.in-Ok.ensures.same zero)) stood))
  | else-count-eq0 w ↦
      subst (λ (m : DomainMemory). MayBeKept m all) (sym w.memory-is) (c.in-Ok.ensures.ok all (settled_kept c.args.memory.now all c.requires.settled stood))
])

pub returns-in_default-clause-held : goal.returns-in_default-clause-held
returns-in_default-clause-held c =
    back_held c.args.memory.now c.take_back.new.self c.requires.settled c.take_tags_out.new.memory c.in_default.ensures.kept c.take_back.ensures.kept c.take_back.ensures.settled

pub returns-clause-held : goal.returns-clause-held
returns-clause-held c =
    let most = held_open c.args.memory.now.space in
    kept_held most c.if-count-eq0.memory c.keep.new.self c.keep.ensures.space (elim c.if-count-eq0.branch [
      | then-count-eq0+in_ok-end_slot w ↦ subst (λ (m : DomainMemory). held_open m.space ≤ most) (sym w.memory-is) (omega (arith, c.in-Ok.ensures.held, w.in_ok-end_slot.ensures.held))
      | else-count-eq0 w ↦ subst (λ (m : DomainMemory). held_open m.space ≤ most) (sym w.memory-is) c.in-Ok.ensures.held
    ])

pub returns-clause-goes : goal.returns-clause-goes
returns-clause-goes c = elim c.if-count-eq0.branch [
  | then-count-eq0+in_ok-end_slot w ↦
      let zero : c.in-Ok.count ≡ 0 = omega (arith, w.if-count-eq0.true) in
      end_empties c.args.number c.args.memory.now c.take_tags_out.new.memory _ c.if-count-eq0.memory c.keep.new.self (c.in-Ok.ensures.same zero) w.memory-is w.in_ok-end_slot.ensures.goes c.keep.ensures.gone
  | else-count-eq0 w ↦
      tags_empty c.args.number c.args.memory.now _ c.if-count-eq0.memory c.keep.new.self w.memory-is
      (c.in-Ok.ensures.fewer (λ zero. omega (arith, zero, w.if-count-eq0.false))) c.keep.ensures.gone
]
