use Rattle.std.proofs.Common.{rules, ◌≡◌, ◌∙◌, ap, sym, subst}
use Rattle.std.specs.List.{insert}
use Rattle.page_store.specs.sorted_sets.Homes.{number_of}
use Rattle.page_store.specs.sorted_sets.Rising.{IsGapFor, IsPlaceOf, IsRising}
use Rattle.page_store.proofs.OfSortedSets.Search.{rising_with}
use Rattle.page_cache.specs.Queues.{place_at, place_of}
use Rattle.page_cache.proofs.Places.{enters_at, enters_in, is_taken}
use Rattle.page_cache.proofs.queue.Queue.enter.Goals as goal

pub invariant_of-self-in-Err : goal.invariant_of-self-in-Err
invariant_of-self-in-Err c =
    let gap = subst (λ l. IsGapFor l c.place_at-place.result c.in-Err.index) c.deref.ensures.value c.in-Err.ensures.gap in
    let items : c.insert.new.self.items ≡ insert c.args.self.now.places.items c.in-Err.index (c.place_at-place.result, c.args.home.now) = search rules in
    record { rising = subst IsRising (sym items) (rising_with _ _ _ gap c.args.self.now.rising c.args.home.now) }

pub returns-in-Ok-clause-enters : goal.returns-in-Ok-clause-enters
returns-in-Ok-clause-enters c =
    let old = c.args.self.now.places.items in
    let at : c.place_at-place.result ≡ place_at c.in-Some.group (number_of c.args.home.now) = c.place_at-place.ensures ∙ ap (place_at c.in-Some.group) c.home_number.ensures.value in
    let place = subst (λ p. IsPlaceOf old p c.in-Ok.index) at (subst (λ l. IsPlaceOf l c.place_at-place.result c.in-Ok.index) c.deref.ensures.value c.in-Ok.ensures.place) in
    let enters = enters_at old c.args.self.now.rising c.args.home.now c.in-Some.group c.in-Ok.index place in
    rw (c.in-Some.is, at) enters

pub returns-in-Ok-clause-len : goal.returns-in-Ok-clause-len
returns-in-Ok-clause-len c free =
    let old = c.args.self.now.places.items in
    let at : c.place_at-place.result ≡ place_at c.in-Some.group (number_of c.args.home.now) = c.place_at-place.ensures ∙ ap (place_at c.in-Some.group) c.home_number.ensures.value in
    let place = subst (λ p. IsPlaceOf old p c.in-Ok.index) at (subst (λ l. IsPlaceOf l c.place_at-place.result c.in-Ok.index) c.deref.ensures.value c.in-Ok.ensures.place) in
    let none = free (place_at c.in-Some.group (number_of c.args.home.now)) (ap (λ r. place_of r (number_of c.args.home.now)) c.in-Some.is) in
    absurd (is_taken old c.args.self.now.rising _ c.in-Some.group c.in-Ok.index c.args.home.now place none)

pub returns-in-Err-clause-enters : goal.returns-in-Err-clause-enters
returns-in-Err-clause-enters c =
    let old = c.args.self.now.places.items in
    let at : c.place_at-place.result ≡ place_at c.in-Some.group (number_of c.args.home.now) = c.place_at-place.ensures ∙ ap (place_at c.in-Some.group) c.home_number.ensures.value in
    let gap = subst (λ p. IsGapFor old p c.in-Err.index) at (subst (λ l. IsGapFor l c.place_at-place.result c.in-Err.index) c.deref.ensures.value c.in-Err.ensures.gap) in
    let enters = enters_in old c.args.self.now.rising c.args.home.now c.in-Some.group c.in-Err.index gap in
    let inserted : c.insert.new.self.items ≡ insert old c.in-Err.index (c.place_at-place.result, c.args.home.now) = search rules in
    let items : c.insert.new.self.items ≡ insert old c.in-Err.index (place_at c.in-Some.group (number_of c.args.home.now), c.args.home.now) = inserted ∙ ap (λ p. insert old c.in-Err.index (p, c.args.home.now)) at in
    rw (c.in-Some.is, items) enters
