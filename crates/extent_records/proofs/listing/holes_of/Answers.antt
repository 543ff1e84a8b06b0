use Rattle.std.proofs.Common.{sym, ap, subst, ◌∙◌}
use Rattle.std.proofs.lemmas.List.{take_all}
use Rattle.extent_maps.specs.Runs.{AreRuns}
use Rattle.extent_records.specs.Writing.{AllSuit, hole_kind}
use Rattle.extent_records.specs.Listing.{holes_in, hole_part}
use Rattle.extent_records.proofs.ListingLemmas.{holes_suit, keeps_holes, kept_runs}
use Rattle.extent_records.proofs.listing.holes_of.Goals as goal

pub returns-clause-runs : goal.returns-clause-runs
returns-clause-runs c =
    let runs = c.args.runs.now in
    let all = c.loop-run.invariant ∙ ap holes_in (take_all c.loop-run.run-index runs c.loop-run-test.false) in
    subst AreRuns (sym all) (kept_runs (λ run. hole_part run.first run) keeps_holes runs c.requires)

pub returns-clause-suits : goal.returns-clause-suits
returns-clause-suits c =
    let runs = c.args.runs.now in
    let all = c.loop-run.invariant ∙ ap holes_in (take_all c.loop-run.run-index runs c.loop-run-test.false) in
    subst (AllSuit hole_kind) (sym all) (holes_suit runs)
