use Rattle.std.proofs.Common.{◌≡◌}
use Rattle.directory_pages.specs.Index.{entries_from}
use Rattle.directory_pages.proofs.index_page.read_entries.Given as goal

abbrev pub invariant-loop-entry : goal.invariant-loop-entry
invariant-loop-entry l = l.list.items ≡ entries_from l.page 0 l.entry
