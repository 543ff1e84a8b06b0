use Rattle.std.proofs.Common.{◌≡◌, ℕ, ◌<◌, Some, slice_get}
use Rattle.domain_layout.specs.tag_dirs.declared.dir.TagPlace.{TagPlace}
use Rattle.filesets_reading.specs.Chains.{HaveLinksOn}
use Rattle.filesets_reading.proofs.chains.look_at_files.Given as goal

abbrev pub invariant-loop-place : goal.invariant-loop-place
invariant-loop-place g l = (k : ℕ) (p : TagPlace) → k < l.place-index → slice_get l.dir k ≡ Some p → HaveLinksOn (g.M.MetaPages.pages l.pages) l.dir p
