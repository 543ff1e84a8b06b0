use Rattle.std.proofs.Common.{◌≡◌, ◌++◌}
use Rattle.page_faults.specs.directory_pages.Index.{entries_from}
use Rattle.index_row_faults.specs.Entries.{placed}
use Rattle.index_row_faults.proofs.entries.push_entries.Given as goal

abbrev pub invariant-loop-number : goal.invariant-loop-number
invariant-loop-number l = l.entries.items ≡ l.initial.entries.items ++ placed l.home (entries_from l.page 0 l.number)
