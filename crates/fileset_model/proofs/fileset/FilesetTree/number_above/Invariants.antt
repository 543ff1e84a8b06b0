use Rattle.std.proofs.Common.{◌≡◌, ℕ, ◌≤◌, None, take}
use Rattle.std.specs.Ordering.{nat_cmp}
use Rattle.std.specs.FinMap.Entries.{find}
use Rattle.fileset_model.proofs.fileset.FilesetTree.number_above.Given as goal

abbrev pub invariant-loop-used : goal.invariant-loop-used
invariant-loop-used l = record {
  least : l.least ≤ l.number;
  above : (k : ℕ) → l.number ≤ k → find nat_cmp k (take l.used-index l.used-items) ≡ None;
}
