use Rattle.std.proofs.Common.{◌≡◌, ◌∙◌, ℕ, List, Option, Some, length, slice_get, sym, ap, subst, arith, ⊎_elim}
use Rattle.no_faults.specs.domain_memory.declared.slots.SlotFiles.{SlotFiles}
use Rattle.no_faults.proofs.OfFilesetsReading.Ways.{get_pushed, pushed}
use Rattle.attached_domain.specs.Slots.{IsReadOf}
use Rattle.attached_domain.proofs.slots.read_slots.Goals as goal

pub loop-n-preserved : goal.loop-n-preserved
loop-n-preserved g c =
    let pages = g.M.MetaPages.pages c.args.pages.now in
    let table = c.args.table.now in
    let old = c.loop-n.slots.items in
    let slot = c.in_ok-read_slot.field-0 in
    record {
      count = ap (length {A = Option SlotFiles}) c.in_ok-push.ensures.items ∙ pushed old slot ∙ omega (arith, c.loop-n.invariant.count);
      each = λ number seen there.
          ⊎_elim (λ front. c.loop-n.invariant.each number seen front.1)
          (λ last. subst (λ (n : ℕ). IsReadOf pages table n seen) (c.in-Some.ensures.value ∙ sym (last.0 ∙ c.loop-n.invariant.count)) (subst (IsReadOf pages table c.in-Some.number) last.1 c.in_ok-read_slot.ensures))
          (get_pushed old slot number seen (subst (λ (list : List (Option SlotFiles)). slice_get list number ≡ Some seen) c.in_ok-push.ensures.items there));
    }

pub returns : goal.returns
returns g c = record {
  count = omega (arith, c.loop-n-test.false, c.loop-n.auto.n-end, c.loop-n.invariant.count);
  each = c.loop-n.invariant.each;
}
