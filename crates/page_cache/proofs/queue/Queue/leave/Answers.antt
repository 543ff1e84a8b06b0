use Rattle.std.proofs.Common.{ap, subst}
use mathlib.Core.Bool.{false≢true}
use Rattle.page_store.specs.sorted_sets.Rising.{IsGapFor, IsPlaceOf}
use Rattle.page_store.proofs.OfSortedSets.Search.{value_in_gap}
use Rattle.page_cache.specs.Queues.{place_at, place_of}
use Rattle.page_cache.proofs.Places.{leaves_at, leaves_none}
use Rattle.page_cache.proofs.queue.Queue.leave.Goals as goal

pub returns-in-Ok-clause-leaves : goal.returns-in-Ok-clause-leaves
returns-in-Ok-clause-leaves c =
    let old = c.args.self.now.places.items in
    let place = subst (λ p. IsPlaceOf old p c.in-Ok.index) c.place_at.ensures (subst (λ l. IsPlaceOf l c.place_at.result c.in-Ok.index) c.deref.ensures.value c.in-Ok.ensures.place) in
    rw (c.in-Some.is, c.remove.ensures.items) (leaves_at old c.args.self.now.rising c.args.number c.in-Some.group c.in-Ok.index c.remove.result.1 place)

pub returns-in_default-index_of-clause-leaves : goal.returns-in_default-index_of-clause-leaves
returns-in_default-index_of-clause-leaves c =
    let old = c.args.self.now.places.items in
    let gap = subst (λ p. IsGapFor old p c.in_default-index_of.field-0) c.place_at.ensures (subst (λ l. IsGapFor l c.place_at.result c.in_default-index_of.field-0) c.deref.ensures.value c.in_default-index_of.ensures.gap) in
    rw c.in-Some.is (leaves_none old c.args.self.now.rising c.args.number c.in-Some.group c.in_default-index_of.field-0 gap)

pub returns-in_default-index_of-clause-len : goal.returns-in_default-index_of-clause-len
returns-in_default-index_of-clause-len c there =
    let old = c.args.self.now.places.items in
    let gap = subst (λ p. IsGapFor old p c.in_default-index_of.field-0) c.place_at.ensures (subst (λ l. IsGapFor l c.place_at.result c.in_default-index_of.field-0) c.deref.ensures.value c.in_default-index_of.ensures.gap) in
    let some = there (place_at c.in-Some.group c.args.number) (ap (λ r. place_of r c.args.number) c.in-Some.is) in
    absurd (false≢true (rw (value_in_gap _ _ _ gap) at some))
