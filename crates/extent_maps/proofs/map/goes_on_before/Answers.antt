use Rattle.std.proofs.Common.{◌≡◌, ◌<◌, suc, length, sym, subst, ◌∙◌, arith}
use Rattle.extent_maps.specs.Runs.{IsRun}
use Rattle.extent_maps.proofs.EditLemmas.{goes_on_front, run_before}
use Rattle.extent_maps.proofs.map.goes_on_before.Goals as goal

pub goes_on-requires : goal.goes_on-requires
goes_on-requires c =
    let k = c.in-Some.before in
    let before = c.in-Some.ensures in
    let within : k < length c.args.runs.now = omega (arith, before.0, before.1, c.requires.within) in
    let lower : k < c.args.at = omega (arith, before.0, before.1) in
    subst IsRun (sym c.index-runs-before.is) (run_before c.args.runs.now c.args.at k c.index-runs-before.result c.requires.runs lower within)

pub returns-in-Some : goal.returns-in-Some
returns-in-Some c =
    let k = c.in-Some.before in
    let before = c.in-Some.ensures in
    let within : k < length c.args.runs.now = omega (arith, before.0, before.1, c.requires.within) in
    let is : suc k ≡ c.args.at = omega (arith, before.0, before.1) in
    c.goes_on.ensures ∙ goes_on_front c.args.runs.now k c.args.at c.index-runs-before.result c.args.run.now is within c.index-runs-before.is
