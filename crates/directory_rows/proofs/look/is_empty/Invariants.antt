use Rattle.std.proofs.Common.{◌≡◌, [], take}
use Rattle.directory_rows.specs.Directory.{all_rows, row_pages}
use Rattle.directory_rows.proofs.look.is_empty.Given as goal

abbrev pub invariant-loop-number : goal.invariant-loop-number
invariant-loop-number g l = all_rows (take l.number (row_pages (g.S.BitfileSet.files l.set) l.dir)) ≡ []
