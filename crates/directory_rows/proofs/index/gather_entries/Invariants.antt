use Rattle.std.proofs.Common.{◌*◌, ◌≤◌, length}
use Rattle.directory_rows.specs.Directory.{row_pages}
use Rattle.directory_rows.proofs.Gathered.{AreEntriesBelow}
use Rattle.directory_rows.proofs.index.gather_entries.Given as goal

abbrev pub invariant-loop-number : goal.invariant-loop-number
invariant-loop-number g l = record {
  below : AreEntriesBelow (row_pages (g.S.BitfileSet.files l.set) l.dir) l.number l.entries.items;
  few : length l.entries.items ≤ 1022 * l.number;
}
