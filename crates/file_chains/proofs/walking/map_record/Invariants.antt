use Rattle.std.proofs.Common.{◌≡◌, ℕ, ◌<◌, None, get_or}
use Rattle.free_cells.specs.metadata_cells.Cell.{Cell, record_of}
use Rattle.free_cells.specs.metadata_cells.Chain.{StandsAt}
use Rattle.file_chains.proofs.MapRecords.{map_kinds}
use Rattle.file_chains.proofs.walking.map_record.Given as goal

abbrev pub invariant-loop-kind : goal.invariant-loop-kind
invariant-loop-kind g l = (cell : Cell) → StandsAt (g.M.MetaPages.pages l.pages) l.at cell → (k : ℕ) → k < l.kind-index → record_of (get_or map_kinds k 0) cell.records ≡ None
