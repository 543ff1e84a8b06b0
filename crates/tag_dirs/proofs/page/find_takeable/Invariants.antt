use Rattle.std.proofs.Common.{◌≡◌, ◌<◌, ◌≤◌, ℕ, false}
use Rattle.tag_dirs.specs.TagPage.{entry_of, is_takeable}
use Rattle.tag_dirs.proofs.page.find_takeable.Given as goal

abbrev pub invariant-loop-entry : goal.invariant-loop-entry
invariant-loop-entry l = (j : ℕ) → l.first ≤ j → j < l.entry → is_takeable (entry_of l.page j) ≡ false
