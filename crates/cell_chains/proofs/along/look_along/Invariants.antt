use Rattle.std.proofs.Common.{◌↔◌, ℕ}
use Rattle.metadata_cells.specs.sorted_sets.Members.{IsIn}
use Rattle.metadata_cells.specs.sorted_sets.SpanMembers.{HasNumber}
use Rattle.cell_chains.proofs.Again.{AreAgain, SaidBelow}
use Rattle.cell_chains.proofs.along.look_along.Given as goal

abbrev pub invariant-loop-at : goal.invariant-loop-at
invariant-loop-at g l = record {
  said : (n : ℕ) → HasNumber l.said n ↔ SaidBelow (g.M.MetaPages.pages l.pages) l.what l.cells l.at-index n;
  found : AreAgain (g.M.MetaPages.pages l.pages) l.what l.cells (IsIn l.initial.found) (IsIn l.found) l.at-index;
}
