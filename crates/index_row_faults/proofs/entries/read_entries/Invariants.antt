use Rattle.std.proofs.Common.{◌≡◌, take}
use Rattle.index_row_faults.specs.Entries.{entries_on}
use Rattle.index_row_faults.proofs.entries.read_entries.Given as goal

abbrev pub invariant-loop-home : goal.invariant-loop-home
invariant-loop-home g l = l.entries.items ≡ entries_on (g.M.MetaPages.pages l.pages) (take l.home-index l.homes)
