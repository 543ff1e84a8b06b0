use Rattle.std.proofs.Common.{◌<◌, ℕ}
use Rattle.tag_faults.specs.Directories.{IsGoodEntry}
use Rattle.tag_faults.proofs.entries.are_good_entries.Given as goal

abbrev pub invariant-loop-entry : goal.invariant-loop-entry
invariant-loop-entry l = (entry : ℕ) → entry < l.entry → IsGoodEntry l.page entry
