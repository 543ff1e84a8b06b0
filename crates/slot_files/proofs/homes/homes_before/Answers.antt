use Rattle.std.proofs.Common.{◌∙◌, ◌+◌, List, Option, sym, ap, subst, arith}
use Rattle.index_row_faults.specs.extent_maps.Runs.{home_at}
use Rattle.slot_files.specs.Said.{place_in}
use Rattle.slot_files.specs.declared.said.SaidHome.{SaidHome}
use Rattle.slot_files.proofs.Listed.{UpTo, up_on}
use Rattle.slot_files.proofs.SaidPlaces.{IsHomeAt, before_ends, place_got}
use Rattle.slot_files.proofs.homes.homes_before.Goals as goal

pub loop-page-preserved : goal.loop-page-preserved
loop-page-preserved c =
    let places = c.args.places.now in
    subst (λ (l : List (Option SaidHome)). UpTo (IsHomeAt (λ p. home_at (place_in places p))) l (c.loop-page.page + 1)) (sym c.in_ok-push.ensures.items)
    (up_on (IsHomeAt (λ p. home_at (place_in places p))) c.loop-page.homes.items c.loop-page.page c.home_of.result c.loop-page.invariant
    (c.home_of.ensures ∙ ap home_at (sym (place_got places c.loop-page.page _ (omega (arith, c.loop-page-test.true, c.min-end.ensures))))))

pub returns : goal.returns
returns c =
    before_ends c.args.places.now c.args.keep c.loop-page.page c.loop-page.homes.items c.loop-page.invariant
    (omega (arith, c.loop-page.auto.page-end, c.min-end.ensures)) (λ p behind low. omega (arith, behind, low, c.loop-page-test.false, c.min-end.ensures))
