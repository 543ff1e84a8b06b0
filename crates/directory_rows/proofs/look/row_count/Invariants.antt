use Rattle.std.proofs.Common.{◌≡◌, ◌*◌, ◌≤◌, length, take}
use Rattle.directory_rows.specs.Directory.{all_rows, row_pages}
use Rattle.directory_rows.proofs.look.row_count.Given as goal

abbrev pub invariant-loop-number : goal.invariant-loop-number
invariant-loop-number g l = record {
  counted : l.count ≡ length (all_rows (take l.number (row_pages (g.S.BitfileSet.files l.set) l.dir)));
  few : l.count ≤ 1022 * l.number;
}
