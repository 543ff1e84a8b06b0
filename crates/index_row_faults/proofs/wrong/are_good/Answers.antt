use Rattle.std.proofs.Common.{◌≡◌, ◌∙◌, length, refl, sym}
use Rattle.std.proofs.lemmas.Option.{slice_get_read}
use mathlib.Core.Bool.{false≢true}
use Rattle.directory_faults.proofs.Inserted.{at_among}
use Rattle.index_row_faults.specs.Totals.{IsGoodAt}
use Rattle.index_row_faults.proofs.Items.{so_all, so_more}
use Rattle.index_row_faults.proofs.wrong.are_good.Goals as goal

pub returns-then-not-is_good_at : goal.returns-then-not-is_good_at
returns-then-not-is_good_at g c =
    let homes = c.args.homes.now in
    let number = c.loop-home.home-index in
    let home = c.home-item.result in (
      λ is. absurd (false≢true is),
      λ all.
          let at = slice_get_read homes (length homes) number home refl c.loop-home-test.true c.home-item.is in
          absurd (false≢true (sym c.if-not-is_good_at.true ∙ c.is_good_at.ensures.1 (all home (at_among homes number home at)))),
    )

pub loop-home-preserved : goal.loop-home-preserved
loop-home-preserved g c =
    let homes = c.args.homes.now in
    let number = c.loop-home.home-index in
    let home = c.home-item.result in
    so_more (IsGoodAt (g.M.MetaPages.pages c.args.pages.now)) homes number home (slice_get_read homes (length homes) number home refl c.loop-home-test.true c.home-item.is) (c.is_good_at.ensures.0 c.if-not-is_good_at.false) c.loop-home.invariant

pub returns : goal.returns
returns g c = (
  λ is. so_all (IsGoodAt (g.M.MetaPages.pages c.args.pages.now)) c.args.homes.now c.loop-home.home-index c.loop-home-test.false c.loop-home.invariant,
  λ all. refl,
)
