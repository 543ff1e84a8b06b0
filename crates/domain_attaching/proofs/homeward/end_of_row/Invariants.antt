use Rattle.std.proofs.Common.{◌≤◌}
use Rattle.attached_domain.specs.staged_pages.Store.{pages_of}
use Rattle.domain_attaching.specs.Closing.{AreBetween, IsToBring}
use Rattle.domain_attaching.proofs.homeward.end_of_row.Given as goal

abbrev pub invariant-loop-page : goal.invariant-loop-page
invariant-loop-page l = record {
  low : l.first ≤ l.page;
  row : AreBetween l.vol l.first l.page (IsToBring (pages_of l.memory.pages) l.memory.frame.anchor l.tables l.of_tables);
}
