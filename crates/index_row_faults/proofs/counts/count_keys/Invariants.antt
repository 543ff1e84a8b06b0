use Rattle.std.proofs.Common.{◌≡◌, ℕ, take}
use Rattle.std.specs.List.{count_by}
use Rattle.index_row_faults.specs.Counts.{count_in, is_key}
use Rattle.index_row_faults.proofs.counts.count_keys.Given as goal

abbrev pub invariant-loop-key : goal.invariant-loop-key
invariant-loop-key l = (hash page : ℕ) → count_in l.counts hash page ≡ count_by (is_key hash page) (take l.key-index l.keys)
