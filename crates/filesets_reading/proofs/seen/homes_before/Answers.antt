use Rattle.std.proofs.Common.{◌≡◌, List, subst, arith}
use Rattle.domain_layout.specs.extent_maps.Runs.{place_of}
use Rattle.domain_layout.specs.extent_maps.declared.run.PagePlace.TheVariants.{Absent}
use Rattle.domain_layout.specs.extent_maps.declared.run.Run.{Run}
use Rattle.filesets_reading.proofs.Originals.{list_ends, none_behind}
use Rattle.filesets_reading.proofs.seen.homes_before.Goals as goal

pub returns-clause-homes : goal.returns-clause-homes
returns-clause-homes c =
    list_ends (place_of c.args.map.now) c.loop-page.homes.items c.args.from c.loop-page.page c.loop-page.invariant
    (λ p behind. none_behind (place_of c.args.map.now) c.args.from c.end_of.result p
    (λ end. subst (λ (runs : List Run). place_of runs p ≡ Absent) c.runs.ensures.runs (c.end_of.ensures.behind p end))
    (λ low. omega (arith, behind, low, c.loop-page-test.false, c.min-end.ensures)))
    (omega (arith, c.loop-page.auto.page-end, c.min-end.ensures))

pub returns-clause-few : goal.returns-clause-few
returns-clause-few c = omega (arith, c.loop-page.invariant.count, c.loop-page.auto.page-end, c.min-end.ensures, c.end_of.ensures.few)
