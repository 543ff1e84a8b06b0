use Rattle.std.proofs.Common.{IsTrue, take}
use Rattle.std.specs.FinMap.Entries.{is_sorted}
use Rattle.fileset_model.specs.fileset_values.Orders.{owner_cmp}
use Rattle.quota_book.specs.QuotaCells.{said_by}
use Rattle.quota_book.proofs.Once.{NotedSo}
use Rattle.quota_book.proofs.quota_cells.are_once.Given as goal

abbrev pub invariant-loop-said : goal.invariant-loop-said
invariant-loop-said l = record {
  so : NotedSo (said_by (take l.said-index l.records)) l.seen.items;
  sorted : IsTrue (is_sorted owner_cmp l.seen.items);
}
