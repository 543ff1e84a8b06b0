use Rattle.std.proofs.Common.{ℕ, ◌<◌}
use Rattle.filesets_reading.specs.Good.{IsDecided}
use Rattle.filesets_reading.proofs.cells.look_at_page.Given as goal

abbrev pub invariant-loop-cell : goal.invariant-loop-cell
invariant-loop-cell g l = (k : ℕ) → k < l.cell → IsDecided (g.M.MetaPages.pages l.pages) (record { vol = l.vol; page = l.page; cell = k })
