use Rattle.std.proofs.Common.{◌≡◌, drop}
use Rattle.directory_rows.specs.Ways.{rows_by}
use Rattle.directory_rows.proofs.led.find_rows.Given as goal

abbrev pub invariant-loop-one : goal.invariant-loop-one
invariant-loop-one l = rows_by (drop l.one-index l.directories) l.dir ≡ rows_by l.directories l.dir
