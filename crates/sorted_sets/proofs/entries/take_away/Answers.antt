use Rattle.std.proofs.Common.{◌≡◌, ◌<◌, ◌∙◌, IsTrue, length, subst, sym}
use Rattle.std.specs.FinMap.Entries.{find, is_sorted}
use Rattle.std.proofs.Common.{None}
use Rattle.sorted_sets.proofs.EntryLemmas.{is_sorted_where, to_T}
use Rattle.sorted_sets.proofs.Removal.{others-at, others-none}
use Rattle.sorted_sets.specs.Entries.{IsEqualAt}
use Rattle.sorted_sets.proofs.entries.take_away.Goals as goal

pub returns-in-Ok-clause-items : goal.returns-in-Ok-clause-items
returns-in-Ok-clause-items g c =
    let es = c.args.entries.now.items in
    let equal = subst (λ l. IsEqualAt g.K.Ord.cmp l c.args.key.now c.in-Ok.place) c.deref.ensures.value c.in-Ok.ensures.equal in
    let within : c.in-Ok.place < length es = subst (λ l. c.in-Ok.place < length l) c.deref.ensures.value c.in-Ok.ensures.place.within in
    c.remove.ensures.items ∙ sym (others-at g.met.K.Ord.total c.args.key.now es c.in-Ok.place c.remove.result (to_T _ c.requires) within (equal c.remove.result))

pub returns-in-Ok-clause-sorted : goal.returns-in-Ok-clause-sorted
returns-in-Ok-clause-sorted g c = subst (λ l. IsTrue (is_sorted g.K.Ord.cmp l)) (sym (returns-in-Ok-clause-items g c)) (is_sorted_where g.K.Ord.cmp _ c.args.entries.now.items c.requires)

pub returns-in_default-clause-items : goal.returns-in_default-clause-items
returns-in_default-clause-items g c =
    sym (others-none g.met.K.Ord.total c.args.key.now c.args.entries.now.items (subst (λ l. find g.K.Ord.cmp c.args.key.now l ≡ None) c.deref.ensures.value c.in_default.ensures.gap.absent))
