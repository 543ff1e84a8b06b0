use Rattle.std.proofs.Common.{◌≡◌, ◌<◌, ℕ, get_or}
use Rattle.release_list.specs.declared.list.Entry.{Entry}
use Rattle.release_list.proofs.list.find_entry.Given as goal

abbrev pub invariant-loop-i : goal.invariant-loop-i
invariant-loop-i l = (k : ℕ) (d : Entry) → k < l.i → ¬ (get_or l.entries k d).at ≡ l.at
