use Rattle.std.proofs.Common.{take}
use Rattle.std.specs.Prelude.{Contains}
use Rattle.domain_attaching.specs.Tables.{Marks}
use Rattle.domain_attaching.proofs.tables.mark_cells.Given as goal

abbrev pub invariant-loop-page : goal.invariant-loop-page
invariant-loop-page l = Marks (λ k. Contains (take l.page-index l.page-items) k) l.fn.marks l.marks
