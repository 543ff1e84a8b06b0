use Rattle.std.proofs.Common.{◌≡◌, ◌++◌}
use Rattle.directory_rows.specs.Directory.{row_pages, rows_at}
use Rattle.directory_rows.specs.Steps.{entries_for}
use Rattle.directory_rows.proofs.index.push_entries.Given as goal

abbrev pub invariant-loop-row : goal.invariant-loop-row
invariant-loop-row g l = record {
  can : (goal.iterator-loop-row g).can_next l.row-iterator;
  finite : (goal.iterator-loop-row g).is_finite l.row-iterator;
  pushed : l.initial.entries.items ++ entries_for l.number (rows_at l.number (row_pages (g.S.BitfileSet.files l.set) l.fn.dir)) ≡ l.entries.items ++ entries_for l.number l.row-iterator;
}
