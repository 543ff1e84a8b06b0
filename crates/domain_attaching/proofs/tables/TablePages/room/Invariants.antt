use Rattle.std.proofs.Common.{◌≡◌, ◌+◌, length}
use Rattle.domain_attaching.proofs.Marked.{AreEach}
use Rattle.domain_attaching.proofs.TablesMarked.{HasCount}
use Rattle.domain_attaching.proofs.tables.TablePages.room.Given as goal

abbrev pub invariant-loop-number : goal.invariant-loop-number
invariant-loop-number l = record {
  count : length l.volumes.items + 1 ≡ l.number;
  each : AreEach (HasCount l.frame.anchor) l.volumes.items;
}
