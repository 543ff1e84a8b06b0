use Rattle.std.proofs.Common.{◌≡◌, ◌+◌, ◌<◌, ◌≤◌, length, sym, subst, leb-true, arith}
use Rattle.std.proofs.lemmas.Bool.{le-leb}
use Rattle.extent_maps.specs.Runs.{IsRun, end_of}
use Rattle.extent_maps.proofs.RunLemmas.{is_run_at}
use Rattle.extent_maps.proofs.EditLemmas.{end_at}
use Rattle.extent_maps.proofs.PartLemmas.{ends_all}
use Rattle.extent_maps.proofs.map.ends_before.Goals as goal

pub end-requires : goal.end-requires
end-requires c =
    let before = c.in-Some.ensures in
    let within : c.in-Some.before < length c.args.runs.now = omega (arith, before.0, before.1, c.requires.within) in
    subst IsRun (sym c.index-runs-before.is) (is_run_at c.args.runs.now c.in-Some.before c.index-runs-before.result c.requires.runs within)

pub returns-in-Some : goal.returns-in-Some
returns-in-Some c =
    let runs = c.args.runs.now in
    let run = c.index-runs-before.result in
    let before = c.in-Some.ensures in
    let within : c.in-Some.before < length runs = omega (arith, before.0, before.1, c.requires.within) in
    let is : c.in-Some.before + 1 ≡ c.args.at = omega (arith, before.0, before.1) in
    let lower : c.in-Some.before < c.args.at = omega (arith, is) in (
      λ t. ends_all runs c.in-Some.before c.args.at c.args.page run is within c.index-runs-before.is c.requires.runs (let le = leb-true c.end.result c.args.page t in omega (arith, le, c.end.ensures)),
      λ ends.
          let le : end_of run ≤ c.args.page = subst (λ r. end_of r ≤ c.args.page) (sym c.index-runs-before.is) (end_at runs c.args.at c.in-Some.before run c.args.page ends lower within) in
          le-leb c.end.result c.args.page (omega (arith, le, c.end.ensures)),
    )
