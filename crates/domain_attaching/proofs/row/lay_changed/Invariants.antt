use Rattle.std.proofs.Common.{◌≡◌, ◌+◌, ◌*◌, ◌<◌, ◌≤◌, ℕ, Some, length}
use Rattle.attached_domain.specs.staged_pages.Store.{pages_of}
use Rattle.domain_attaching.specs.Closing.{page_in}
use Rattle.domain_attaching.proofs.row.lay_changed.Given as goal

abbrev pub invariant-loop-k : goal.invariant-loop-k
invariant-loop-k l = record {
  low : l.from ≤ l.k;
  high : l.k ≤ l.count;
  size : length l.found ≡ 8192 * l.count;
  laid : (j : ℕ) → l.from ≤ j → j < l.k → pages_of l.pages (record { vol = l.vol; page = l.first + j }) ≡ Some (page_in l.found j);
  rest : (j : ℕ) → l.k ≤ j → page_in l.found j ≡ page_in l.fn.found j;
}
