use Rattle.std.proofs.Common.{◌≡◌, ◌<◌, ℕ, None}
use Rattle.tag_dirs.specs.TagPage.{entry_of}
use Rattle.tag_dirs.proofs.page.find_used.Given as goal

abbrev pub invariant-loop-entry : goal.invariant-loop-entry
invariant-loop-entry l = (j : ℕ) → j < l.entry → (entry_of l.page j).at ≡ None
