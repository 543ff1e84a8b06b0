use Rattle.std.proofs.Common.{◌≡◌, ◌+◌, ◌++◌, length}
use Rattle.fileset_shapes.specs.directory_pages.RowPage.{rows_of}
use Rattle.directory_faults.specs.Rows.{rows_placed}
use Rattle.directory_faults.proofs.rows.push_page_rows.Given as goal

abbrev pub invariant-loop-place : goal.invariant-loop-place
invariant-loop-place l = record {
  can : (goal.iterator-loop-place).can_next l.left;
  finite : (goal.iterator-loop-place).is_finite l.left;
  rest : l.rows.items ++ rows_placed l.at l.place l.left ≡ l.initial.rows.items ++ rows_placed l.at 0 (rows_of l.page);
  count : l.place + length l.left ≡ length (rows_of l.page);
}
