use Rattle.std.proofs.Common.{◌≡◌, ◌≤◌, length, drop}
use Rattle.cell_records.specs.Rules.{nothing_seen, scan}
use Rattle.cell_records.proofs.reading.scan_fields.Given as goal

abbrev pub invariant-loop-i : goal.invariant-loop-i
invariant-loop-i l = record {
  inside : l.at ≤ length l.bytes;
  same : scan (drop l.i l.widths) (drop l.i l.rules) l.seen (drop l.at l.bytes) l.at ≡ scan l.widths l.rules nothing_seen l.bytes 0;
}
