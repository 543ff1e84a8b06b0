use Rattle.std.proofs.Common.{◌≡◌, ◌++◌}
use Rattle.directory_pages.specs.RowPage.{rows_of}
use Rattle.directory_pages.proofs.page.push_rows.Given as goal

abbrev pub invariant-loop-row : goal.invariant-loop-row
invariant-loop-row l = record {
  can : (goal.iterator-loop-row).can_next l.row-iterator;
  finite : (goal.iterator-loop-row).is_finite l.row-iterator;
  copied : l.initial.rows.items ++ rows_of l.page ≡ l.rows.items ++ l.row-iterator;
}
