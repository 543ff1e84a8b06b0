use Rattle.std.proofs.Common.{sym, subst, arith}
use mathlib.Core.Bool.{false≢true}
use Rattle.sorted_sets.specs.Rising.{IsGapFor, IsPlaceOf, IsRising, Sets}
use Rattle.sorted_sets.proofs.Search.{sets_at_place, rising_at_place, value_at_place, value_in_gap, sets_in_gap, rising_with}
use Rattle.sorted_sets.proofs.numbered.put.Goals as goal

-- memory is short only for a number that has no value
pub returns-in_err-insert-in-Err-clause-there : goal.returns-in_err-insert-in-Err-clause-there
returns-in_err-insert-in-Err-clause-there g c found =
    let gap = subst (λ l. IsGapFor l c.args.key c.in-Err.place) c.deref.ensures.value c.in-Err.ensures.gap in
    absurd (false≢true (rw (value_in_gap _ _ _ gap) at found))

pub returns-in-Ok-clause-ok : goal.returns-in-Ok-clause-ok
returns-in-Ok-clause-ok g c =
    let place = subst (λ l. IsPlaceOf l c.args.key c.in-Ok.place) c.deref.ensures.value c.in-Ok.ensures.place in
    sets_at_place _ _ _ place c.requires c.args.value (c.args.key, c.args.value)

pub returns-in-Ok-clause-rising : goal.returns-in-Ok-clause-rising
returns-in-Ok-clause-rising g c =
    let place = subst (λ l. IsPlaceOf l c.args.key c.in-Ok.place) c.deref.ensures.value c.in-Ok.ensures.place in
    rising_at_place _ _ _ place c.requires c.args.value

pub returns-in_ok-insert-in-Err-clause-ok : goal.returns-in_ok-insert-in-Err-clause-ok
returns-in_ok-insert-in-Err-clause-ok g c =
    let gap = subst (λ l. IsGapFor l c.args.key c.in-Err.place) c.deref.ensures.value c.in-Err.ensures.gap in
    subst (λ l. Sets c.args.entries.now.items l c.args.key c.args.value) (sym c.in_ok-insert-in-Err.ensures.items) (sets_in_gap _ _ _ gap c.args.value)

pub returns-in_ok-insert-in-Err-clause-rising : goal.returns-in_ok-insert-in-Err-clause-rising
returns-in_ok-insert-in-Err-clause-rising g c =
    let gap = subst (λ l. IsGapFor l c.args.key c.in-Err.place) c.deref.ensures.value c.in-Err.ensures.gap in
    subst IsRising (sym c.in_ok-insert-in-Err.ensures.items) (rising_with _ _ _ gap c.requires c.args.value)

-- a number that has a value is found
pub returns-in_err-insert-in-Err-clause-kept : goal.returns-in_err-insert-in-Err-clause-kept
returns-in_err-insert-in-Err-clause-kept g c found =
    let gap = subst (λ l. IsGapFor l c.args.key c.in-Err.place) c.deref.ensures.value c.in-Err.ensures.gap in
    absurd (false≢true (rw (value_in_gap _ _ _ gap) at found))

pub returns-in_ok-insert-in-Err-clause-kept : goal.returns-in_ok-insert-in-Err-clause-kept
returns-in_ok-insert-in-Err-clause-kept g c found =
    let gap = subst (λ l. IsGapFor l c.args.key c.in-Err.place) c.deref.ensures.value c.in-Err.ensures.gap in
    absurd (false≢true (rw (value_in_gap _ _ _ gap) at found))

pub returns-in-Ok-clause-len : goal.returns-in-Ok-clause-len
returns-in-Ok-clause-len g c =
    let place = subst (λ l. IsPlaceOf l c.args.key c.in-Ok.place) c.deref.ensures.value c.in-Ok.ensures.place in
    rw (value_at_place _ _ _ place c.requires (c.args.key, c.args.value)) (omega arith)

pub returns-in_ok-insert-in-Err-clause-len : goal.returns-in_ok-insert-in-Err-clause-len
returns-in_ok-insert-in-Err-clause-len g c =
    let gap = subst (λ l. IsGapFor l c.args.key c.in-Err.place) c.deref.ensures.value c.in-Err.ensures.gap in
    rw (value_in_gap _ _ _ gap) (omega (arith, c.in_ok-insert-in-Err.ensures.len))
