use Rattle.std.proofs.Common.{◌≡◌, map}
use Rattle.file_commands.proofs.Shown.{row_alone}
use Rattle.file_commands.proofs.showing.rows_for.Given as goal

abbrev pub invariant-loop-fileset : goal.invariant-loop-fileset
invariant-loop-fileset l = l.rows.items ≡ map row_alone l.yielded
