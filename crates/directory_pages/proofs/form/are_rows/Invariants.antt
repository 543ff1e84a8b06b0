use Rattle.std.proofs.Common.{◌≡◌, ◌-◌}
use Rattle.directory_pages.specs.Rows.{are_rows as rows_there}
use Rattle.directory_pages.proofs.form.are_rows.Given as goal

abbrev pub invariant-loop-row : goal.invariant-loop-row
invariant-loop-row l = rows_there l.count l.bytes ≡ rows_there (l.count - l._row) l.rest
