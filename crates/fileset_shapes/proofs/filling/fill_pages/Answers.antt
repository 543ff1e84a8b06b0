use Rattle.std.proofs.Common.{◌≡◌, ◌∙◌, ◌+◌, ◌<◌, ℕ, List, Option, Some, None, length, slice_get, slice_index_or, sym, ap, subst, arith}
use Rattle.std.proofs.lemmas.Option.{slice_get-get_or}
use Rattle.filesets_reading.specs.domain_base.declared.place.Home.{Home}
use Rattle.fileset_shapes.proofs.Filled.{AreFilledTo, filled_all, filled_none, filled_on, filled_past}
use Rattle.fileset_shapes.proofs.filling.fill_pages.Goals as goal
use Rattle.fileset_shapes.proofs.filling.fill_pages.Goals.{in-Some+in_ok-put_page, in_default}

pub loop-number-init : goal.loop-number-init
loop-number-init g c = filled_none (g.M.MetaPages.pages c.args.pages.now) c.args.homes.now c.new-map.result c.new-map.ensures

-- what stands at a place of a list that was read there
there : (homes : List (Option Home)) (k : ℕ) (default home : Option Home) → k < length homes → slice_index_or homes k default ≡ home → slice_get homes k ≡ Some home
there homes k default home within is = slice_get-get_or homes k default within ∙ ap Some is

pub put_page-requires-clause-there : goal.put_page-requires-clause-there
put_page-requires-clause-there g c =
    c.requires.stored c.loop-number.number c.in-Some.home (there c.args.homes.now c.loop-number.number _ (Some c.in-Some.home) c.loop-number-test.true c.in-Some.is)

pub loop-number-preserved : goal.loop-number-preserved
loop-number-preserved g c =
    let pages = g.M.MetaPages.pages c.args.pages.now in
    elim c.match-homes-number.branch [
      | in-Some+in_ok-put_page w ↦
          filled_on pages c.args.homes.now c.loop-number.number w.in-Some.home c.loop-number.map c.match-homes-number.map c.loop-number.invariant
          (there c.args.homes.now c.loop-number.number _ (Some w.in-Some.home) c.loop-number-test.true w.in-Some.is) (w.map-is ∙ w.in_ok-put_page.ensures)
      | in_default w ↦
          subst (AreFilledTo pages c.args.homes.now (c.loop-number.number + 1)) (sym w.map-is)
          (filled_past pages c.args.homes.now c.loop-number.number c.loop-number.map c.loop-number.invariant
          (there c.args.homes.now c.loop-number.number _ None c.loop-number-test.true w.in_default.is))
    ]

pub returns : goal.returns
returns g c = filled_all (g.M.MetaPages.pages c.args.pages.now) c.args.homes.now c.loop-number.number c.loop-number.map c.loop-number.invariant (omega (arith, c.loop-number-test.false, c.loop-number.auto.number-end))
