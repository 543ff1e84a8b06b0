use Rattle.std.proofs.Common.{◌≡◌, ◌<◌, ℕ, Some, slice_get}
use Rattle.tag_dirs.specs.declared.dir.TagPlace.{TagPlace}
use Rattle.tag_dirs.specs.Directory.{HasNone}
use Rattle.tag_dirs.proofs.finding.find_in.Given as goal

abbrev pub invariant-loop-place : goal.invariant-loop-place
invariant-loop-place g l = (k : ℕ) (p : TagPlace) → k < l.place-index → slice_get l.places k ≡ Some p → HasNone (g.M.MetaPages.pages l.pages) p
