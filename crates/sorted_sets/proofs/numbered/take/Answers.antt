use Rattle.std.proofs.Common.{◌∙◌, Some, sym, subst, ap}
use Rattle.sorted_sets.specs.Rising.{Drops, IsGapFor, IsPlaceOf, IsRising}
use Rattle.sorted_sets.proofs.Search.{value_at_place, value_in_gap, drops_at_place, drops_in_gap, rising_without}
use Rattle.sorted_sets.proofs.numbered.take.Goals as goal

pub returns-in-Ok-clause-taken : goal.returns-in-Ok-clause-taken
returns-in-Ok-clause-taken g c =
    let place = subst (λ l. IsPlaceOf l c.args.key c.in-Ok.place) c.deref.ensures.value c.in-Ok.ensures.place in
    ap (λ e. Some e.1) c.remove.ensures.value ∙ sym (value_at_place _ _ _ place c.requires c.remove.result)

pub returns-in-Ok-clause-items : goal.returns-in-Ok-clause-items
returns-in-Ok-clause-items g c =
    let place = subst (λ l. IsPlaceOf l c.args.key c.in-Ok.place) c.deref.ensures.value c.in-Ok.ensures.place in
    subst (λ l. Drops c.args.entries.now.items l c.args.key) (sym c.remove.ensures.items) (drops_at_place _ _ _ place c.requires c.remove.result)

pub returns-in-Ok-clause-rising : goal.returns-in-Ok-clause-rising
returns-in-Ok-clause-rising g c =
    let place = subst (λ l. IsPlaceOf l c.args.key c.in-Ok.place) c.deref.ensures.value c.in-Ok.ensures.place in
    subst IsRising (sym c.remove.ensures.items) (rising_without _ _ _ place c.requires)

pub returns-in-Err-clause-taken : goal.returns-in-Err-clause-taken
returns-in-Err-clause-taken g c =
    let gap = subst (λ l. IsGapFor l c.args.key c.in-Err.field-0) c.deref.ensures.value c.in-Err.ensures.gap in
    sym (value_in_gap _ _ _ gap)

pub returns-in-Err-clause-items : goal.returns-in-Err-clause-items
returns-in-Err-clause-items g c =
    let gap = subst (λ l. IsGapFor l c.args.key c.in-Err.field-0) c.deref.ensures.value c.in-Err.ensures.gap in
    drops_in_gap _ _ _ gap
