use Rattle.std.proofs.Common.{ℕ, ◌<◌}
use Rattle.slot_files.specs.Said.{IsLostAt}
use Rattle.slot_files.proofs.sizes.loses_page.Given as goal

abbrev pub invariant-loop-page : goal.invariant-loop-page
invariant-loop-page l = (p : ℕ) → p < l.page → ¬ IsLostAt l.places l.homes p
