use Rattle.std.proofs.Common.{◌≡◌, ◌+◌, ◌-◌, ◌≤◌, List, length, arith, subst, sym, ap, ◌∙◌}
use Rattle.fileset_files.specs.extent_maps.declared.run.PagePlace.TheVariants.{Absent}
use Rattle.fileset_files.specs.extent_maps.declared.run.Run.{Run}
use Rattle.fileset_files.specs.extent_maps.Runs.{AreRuns, place_of}
use Rattle.file_release.proofs.Ends.{run_behind, run_small, run_there}
use Rattle.file_release.proofs.stale.end_of_map.Goals as goal

pub overflow_add-result : goal.overflow_add-result
overflow_add-result c =
    let last = c.in-Some.ensures in
    let are : AreRuns c.runs-runs.result.now = subst AreRuns (sym c.runs-runs.ensures.runs) c.runs-runs.ensures.longest in
    let is_last : c.in-Some.last + 1 ≡ length c.runs-runs.result.now = omega (arith, last.0, last.1) in
    let small : c.index-runs-last.result.page + c.index-runs-last.result.count ≤ 65536 = run_small c.runs-runs.result.now c.in-Some.last c.index-runs-last.result are is_last c.index-runs-last.is in
    omega (arith, small)

pub returns-in-Some-clause-last : goal.returns-in-Some-clause-last
returns-in-Some-clause-last c =
    let last = c.in-Some.ensures in
    let are : AreRuns c.runs-runs.result.now = subst AreRuns (sym c.runs-runs.ensures.runs) c.runs-runs.ensures.longest in
    let is_last : c.in-Some.last + 1 ≡ length c.runs-runs.result.now = omega (arith, last.0, last.1) in
    λ some none. run_there c.runs-runs.result.now c.in-Some.last c.index-runs-last.result are is_last c.index-runs-last.is
    (subst (λ (rs : List Run). place_of rs (c.index-runs-last.result.page + c.index-runs-last.result.count - 1) ≡ Absent) (sym c.runs-runs.ensures.runs) none)

pub returns-in-Some-clause-behind : goal.returns-in-Some-clause-behind
returns-in-Some-clause-behind c =
    let last = c.in-Some.ensures in
    let are : AreRuns c.runs-runs.result.now = subst AreRuns (sym c.runs-runs.ensures.runs) c.runs-runs.ensures.longest in
    let is_last : c.in-Some.last + 1 ≡ length c.runs-runs.result.now = omega (arith, last.0, last.1) in
    λ page behind. ap (λ (rs : List Run). place_of rs page) (sym c.runs-runs.ensures.runs)
    ∙ run_behind c.runs-runs.result.now c.in-Some.last c.index-runs-last.result are is_last c.index-runs-last.is page behind

pub returns-in-Some-clause-small : goal.returns-in-Some-clause-small
returns-in-Some-clause-small c =
    let last = c.in-Some.ensures in
    let are : AreRuns c.runs-runs.result.now = subst AreRuns (sym c.runs-runs.ensures.runs) c.runs-runs.ensures.longest in
    let is_last : c.in-Some.last + 1 ≡ length c.runs-runs.result.now = omega (arith, last.0, last.1) in
    run_small c.runs-runs.result.now c.in-Some.last c.index-runs-last.result are is_last c.index-runs-last.is
