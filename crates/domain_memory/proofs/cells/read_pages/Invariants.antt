use Rattle.domain_memory.specs.Tables.{ReadsTable}
use Rattle.domain_memory.proofs.cells.read_pages.Given as goal

abbrev pub invariant-loop-place : goal.invariant-loop-place
invariant-loop-place g l =
    ReadsTable (g.M.MetaPages.pages l.pages) l.vol l.place l.table l.fn.cells l.cells
