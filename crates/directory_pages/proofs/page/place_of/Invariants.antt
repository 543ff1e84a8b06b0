use Rattle.directory_pages.specs.RowPage.{rows_of}
use Rattle.directory_pages.proofs.Places.{Passed}
use Rattle.directory_pages.proofs.page.place_of.Given as goal

abbrev pub invariant-loop-row : goal.invariant-loop-row
invariant-loop-row l = record {
  can : (goal.iterator-loop-row).can_next l.row-iterator;
  finite : (goal.iterator-loop-row).is_finite l.row-iterator;
  passed : Passed l.name (rows_of l.page) l.start l.row-iterator;
}
