use Rattle.std.proofs.Common.{◌≡◌}
use Rattle.directory_pages.specs.Rows.{found}
use Rattle.directory_pages.specs.RowPage.{rows_of}
use Rattle.directory_pages.proofs.page.find_row.Given as goal

abbrev pub invariant-loop-view : goal.invariant-loop-view
invariant-loop-view l = record {
  can : (goal.iterator-loop-view).can_next l.view-iterator;
  finite : (goal.iterator-loop-view).is_finite l.view-iterator;
  same : found l.name (rows_of l.page) ≡ found l.name l.view-iterator;
}
