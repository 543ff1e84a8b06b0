use Rattle.directory_rows.specs.Directory.{row_pages}
use Rattle.directory_rows.specs.Places.{NoneBelow}
use Rattle.directory_rows.proofs.look.place_by_scan.Given as goal

abbrev pub invariant-loop-number : goal.invariant-loop-number
invariant-loop-number g l = NoneBelow l.name (row_pages (g.S.BitfileSet.files l.set) l.dir) l.number
