use Rattle.std.proofs.Common.{◌≤◌, ◌-◌, length, drop}
use Rattle.cell_records.specs.Records.{kind_of}
use Rattle.extent_records.specs.Listing.{AddsFirst}
use Rattle.extent_records.proofs.listing.push_records.Given as goal

abbrev pub invariant-loop-at : goal.invariant-loop-at
invariant-loop-at l = record {
  within : l.at ≤ length l.runs;
  adds : AddsFirst (kind_of l.value) l.runs (drop l.at l.runs) l.fn.records.items l.records.items;
}

abbrev pub decreases-loop-at : goal.decreases-loop-at
decreases-loop-at l = length l.runs - l.at
