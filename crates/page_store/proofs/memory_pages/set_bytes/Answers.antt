use Rattle.std.proofs.Common.{◌≡◌, ℕ, Some, List, set, sym, ap, subst, ◌∙◌}
use mathlib.Core.Bool.{false≢true}
use Rattle.sorted_sets.specs.domain_base.Page.{overwritten}
use Rattle.sorted_sets.specs.Rising.{IsGapFor, IsPlaceOf, Sets, value_at}
use Rattle.sorted_sets.proofs.Search.{sets_at_place, value_at_place, value_in_gap}
use Rattle.page_store.proofs.memory_pages.set_bytes.Goals as goal

pub returns-in-Ok-clause-value : goal.returns-in-Ok-clause-value
returns-in-Ok-clause-value c =
    let entries = c.args.entries.now.items in
    let entry = c.index_mut.result.now in
    let place : IsPlaceOf entries c.args.key c.in-Ok.place = subst (λ l. IsPlaceOf l c.args.key c.in-Ok.place) c.deref.ensures.value c.in-Ok.ensures.place in
    let found : value_at entries c.args.key ≡ Some entry.1 = value_at_place _ _ _ place c.requires.rising entry ∙ ap (λ (e : ℕ × List ℕ). Some e.1) (sym c.index_mut.ensures.value) in
    let key : entry.0 ≡ c.args.key = ap (λ (e : ℕ × List ℕ). e.0) c.index_mut.ensures.value ∙ place.has_key entry in
    let sets = sets_at_place _ _ _ place c.requires.rising (overwritten entry.1 c.args.at c.args.bytes.now) entry in
    let page = overwritten entry.1 c.args.at c.args.bytes.now in
    let new = subst (λ k. Sets entries (set entries c.in-Ok.place (k, page)) c.args.key page) (sym key) sets in
    let is = subst (λ v. Sets entries (set entries c.in-Ok.place (entry.0, v)) c.args.key page) (sym c.set.ensures.value) new in
    rw found is

pub returns-in_default-clause-value : goal.returns-in_default-clause-value
returns-in_default-clause-value c =
    let gap = subst (λ l. IsGapFor l c.args.key c.in_default.field-0) c.deref.ensures.value c.in_default.ensures.gap in
    absurd (false≢true (rw (value_in_gap _ _ _ gap) at c.requires.there))
