use Rattle.std.proofs.Common.{◌≡◌, ℕ, ◌<◌, false, slice_get}
use Rattle.no_faults.specs.domain_layout.CellRules.{of_clone}
use Rattle.attached_domain.proofs.fits.has_clone.Given as goal

abbrev pub invariant-loop-number : goal.invariant-loop-number
invariant-loop-number l = (k : ℕ) → k < l.number → of_clone (slice_get l.table.slots k) ≡ false
