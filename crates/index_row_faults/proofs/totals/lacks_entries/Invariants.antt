use Rattle.index_row_faults.specs.Totals.{IsLacking}
use Rattle.std.proofs.Common.{ℕ}
use Rattle.index_row_faults.proofs.Items.{AreSo}
use Rattle.index_row_faults.proofs.totals.lacks_entries.Given as goal

abbrev pub invariant-loop-key : goal.invariant-loop-key
invariant-loop-key l = AreSo {X = ℕ × ℕ} (λ key. ¬ IsLacking l.in_rows l.in_entries key) l.keys l.key-index
