use Rattle.std.proofs.Common.{◌+◌, inl, inr, length, arith, refl, sym, subst, ⊎_elim}
use Rattle.std.proofs.lemmas.Option.{slice_get_read, slice_get_within}
use Rattle.cell_faults.proofs.Pushed.{ArePushed, push_one}
use Rattle.cell_faults.proofs.tables.push_pages.Goals as goal

pub loop-place-preserved : goal.loop-place-preserved
loop-place-preserved c =
    let homes = c.args.homes.now in
    let old = c.args.read.now.items in
    subst (ArePushed old homes (c.loop-place.place + 1)) (sym c.in_ok-push.ensures.items)
    (push_one old c.loop-place.read.items homes c.loop-place.place c.index-homes-place.result c.loop-place.invariant
    (slice_get_read homes (length homes) c.loop-place.place c.index-homes-place.result refl c.loop-place-test.true c.index-homes-place.is))

pub returns : goal.returns
returns c page =
    let homes = c.args.homes.now in (
      λ is. ⊎_elim (λ before. inl before) (λ put. inr put.1) ((c.loop-place.invariant page).0 is),
      λ is. (c.loop-place.invariant page).1
          (⊎_elim (λ before. inl before) (λ there. inr (omega (arith, slice_get_within homes page.place page.home there, c.loop-place-test.false), there)) is),
    )
