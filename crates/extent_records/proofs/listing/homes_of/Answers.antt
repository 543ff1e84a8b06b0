use Rattle.std.proofs.Common.{sym, ap, subst, ◌∙◌}
use Rattle.std.proofs.lemmas.List.{take_all}
use Rattle.extent_maps.specs.Runs.{AreRuns}
use Rattle.extent_records.specs.Listing.{homes_in, home_part}
use Rattle.extent_records.proofs.ListingLemmas.{keeps_homes, kept_runs}
use Rattle.extent_records.proofs.listing.homes_of.Goals as goal

pub returns-clause-runs : goal.returns-clause-runs
returns-clause-runs c =
    let runs = c.args.runs.now in
    let all = c.loop-run.invariant.list ∙ ap homes_in (take_all c.loop-run.run-index runs c.loop-run-test.false) in
    subst AreRuns (sym all) (kept_runs (λ run. home_part run.first run) keeps_homes runs c.requires)
