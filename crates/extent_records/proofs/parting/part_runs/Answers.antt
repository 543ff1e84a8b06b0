use Rattle.std.proofs.Common.{◌-◌, ◌/◌, length, drop, subst}
use Rattle.cell_records.specs.Records.{kind_of}
use Rattle.extent_maps.proofs.EditLemmas.{drop_runs, take_runs}
use Rattle.extent_records.specs.Listing.{HoldsRuns}
use Rattle.extent_records.proofs.HalfLemmas.{all_others, parts_for}
use Rattle.extent_records.proofs.parting.part_runs.Goals as goal

pub holding-requires-clause-runs : goal.holding-requires-clause-runs
holding-requires-clause-runs c = take_runs c.args.runs.now (length c.args.runs.now / 2) c.requires.runs

pub holding-requires-2-clause-runs : goal.holding-requires-2-clause-runs
holding-requires-2-clause-runs c =
    let middle = length c.args.runs.now / 2 in
    take_runs (drop middle c.args.runs.now) (length c.args.runs.now - middle) (drop_runs c.args.runs.now middle c.requires.runs)

pub returns : goal.returns
returns c =
    let runs = c.args.runs.now in
    let middle = length runs / 2 in
    parts_for (kind_of c.args.front.now) (kind_of c.args.tail.now) middle runs c.holding.result c.holding-2.result c.requires.runs c.holding.ensures
    (subst (λ l. HoldsRuns (kind_of c.args.tail.now) l c.holding-2.result) (all_others middle runs) c.holding-2.ensures)
