use Rattle.std.proofs.Common.{◌≡◌, ◌<◌, ℕ, true, get_or}
use Rattle.domain_changes.specs.metadata_cells.Cell.{Cell}
use Rattle.domain_changes.specs.metadata_cells.Chain.{StandsAt}
use Rattle.domain_changes.specs.release_list.declared.list.Entry.{Entry}
use Rattle.domain_changes.specs.domain_memory.Going.{are_plain}
use Rattle.release_changes.proofs.letting_go.are_all_plain.Given as goal

abbrev pub invariant-loop-entry : goal.invariant-loop-entry
invariant-loop-entry g l = (k : ℕ) (d : Entry) → k < l.entry-index → (cell : Cell) → StandsAt (g.M.MetaPages.pages l.pages) (get_or l.entries k d).at cell → are_plain cell.records ≡ true
