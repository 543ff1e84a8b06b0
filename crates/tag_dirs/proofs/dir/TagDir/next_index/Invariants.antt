use Rattle.std.proofs.Common.{◌≡◌, ◌<◌, None, ℕ}
use Rattle.tag_dirs.specs.Directory.{home_with}
use Rattle.tag_dirs.proofs.dir.TagDir.next_index.Given as goal

abbrev pub invariant-loop-index : goal.invariant-loop-index
invariant-loop-index l = (other : ℕ) → other < l.index → ¬ home_with l.self other ≡ None
