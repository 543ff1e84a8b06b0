use Rattle.std.proofs.Common.{arith}
use Rattle.cell_records.specs.Records.{kind_of}
use Rattle.extent_records.proofs.ListingLemmas.{few_rows, holds_runs}
use Rattle.extent_records.proofs.listing.holding.Goals as goal

pub unreachable-requires : goal.unreachable-requires
unreachable-requires c =
    let few = few_rows c.args.value.now c.args.runs.now c.requires.is_map.has_rows c.requires.runs c.requires.few in
    let more = c.in-None.ensures in omega (arith, few, more)

pub returns : goal.returns
returns c = holds_runs (kind_of c.args.value.now) c.args.runs.now c.in-Some.record c.requires.is_map.has_rows c.requires.runs c.requires.suits c.in-Some.ensures
