use Rattle.std.proofs.Common.{◌≡◌, inl, inr, Some, length, slice_get, refl, arith, ⊎_elim}
use Rattle.std.proofs.lemmas.Option.{slice_get_read, slice_get_within}
use Rattle.cell_faults.specs.sorted_sets.SpanMembers.{HasNumber}
use Rattle.tag_faults.proofs.Counted.{number_more}
use Rattle.tag_faults.proofs.SlotPages.{HasIndexAt, IsWrongAt, here_index, wrong_at}
use Rattle.tag_faults.proofs.indexes.insert_wrong_pages.Goals as goal

pub loop-place-init : goal.loop-place-init
loop-place-init g c = record {
  seen = λ n. ((λ has. absurd (c.new-seen.ensures n has)), (λ (k, below, others). absurd (omega (arith, below))));
  found = λ home. ((λ is. inl is), (λ which. ⊎_elim (λ is. is) (λ (k, below, others). absurd (omega (arith, below))) which));
}

pub loop-place-preserved : goal.loop-place-preserved
loop-place-preserved g c =
    let pages = g.M.MetaPages.pages c.args.pages.now in
    let homes = c.args.homes.now in
    let place = c.loop-place.place in
    let item = c.index-homes-place.result in
    let at : slice_get homes place ≡ Some item = slice_get_read homes (length homes) place item refl c.loop-place-test.true c.index-homes-place.is in
    record {
      seen = λ n.
          let put = c.in_ok-look_at.ensures.seen n in
          let more = number_more (HasIndexAt pages homes n) place in
          let before = c.loop-place.invariant.seen n in (
            λ has. more.0 (⊎_elim (λ was. inl (before.0 was)) (λ there. inr (item, at, there)) (put.0 has)),
            λ below. put.1 (⊎_elim (λ low. inl (before.1 low)) (λ here. inr (here_index pages homes place item n at here)) (more.1 below)),
          );
      found = λ home.
          let put = c.in_ok-look_at.ensures.found home in
          let more = number_more (λ k. IsWrongAt pages homes home k) place in
          let wrong = wrong_at pages homes home place item at (HasNumber c.loop-place.seen) c.loop-place.invariant.seen in
          let before = c.loop-place.invariant.found home in (
            λ is. ⊎_elim (λ was. ⊎_elim (λ first. inl first) (λ low. inr (more.0 (inl low))) (before.0 was)) (λ here. inr (more.0 (inr (wrong.0 here)))) (put.0 is),
            λ which. put.1 (⊎_elim (λ first. inl (before.1 (inl first))) (λ below. ⊎_elim (λ low. inl (before.1 (inr low))) (λ here. inr (wrong.1 here)) (more.1 below)) which),
          );
    }

pub returns : goal.returns
returns g c home =
    let are = c.loop-place.invariant.found home in (
      λ is. ⊎_elim (λ first. inl first) (λ (place, below, (at, there)). inr (place, at, there)) (are.0 is),
      λ which. are.1 (⊎_elim (λ first. inl first)
          (λ (place, at, there). inr (place, omega (arith, slice_get_within c.args.homes.now place home at, c.loop-place-test.false), (at, there))) which),
    )
