use Rattle.std.proofs.Common.{◌-◌, drop, arith}
use Rattle.cell_records.specs.Records.{kind_of}
use Rattle.extent_maps.proofs.EditLemmas.{drop_runs, take_runs}
use Rattle.extent_records.proofs.ListingLemmas.{adds_all, adds_min}
use Rattle.extent_records.proofs.listing.push_records.Goals as goal

pub push_record-requires-clause-runs : goal.push_record-requires-clause-runs
push_record-requires-clause-runs c =
    take_runs (drop c.loop-at.at c.args.runs.now) (c.min-end.result - c.loop-at.at) (drop_runs c.args.runs.now c.loop-at.at c.requires.runs)

pub loop-at-preserved : goal.loop-at-preserved
loop-at-preserved c = record {
  within = omega (arith, c.min-end.ensures);
  adds = adds_min (kind_of c.args.value.now) c.loop-at.at c.row_count-rows.result c.min-end.result c.args.runs.now c.args.records.now.items c.loop-at.records.items c.push_record.new.records.items c.loop-at-test.true c.row_count-rows.ensures c.min-end.ensures c.loop-at.invariant.adds c.in_ok-push_record.ensures;
}

pub returns : goal.returns
returns c = adds_all (kind_of c.args.value.now) c.loop-at.at c.args.runs.now c.args.records.now.items c.loop-at.records.items c.loop-at-test.false c.loop-at.invariant.adds
