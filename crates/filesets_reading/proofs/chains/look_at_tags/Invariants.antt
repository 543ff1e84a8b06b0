use Rattle.std.proofs.Common.{ℕ, ◌+◌, ◌*◌, ◌<◌}
use Rattle.filesets_reading.specs.Chains.{HasLinksAt}
use Rattle.filesets_reading.proofs.chains.look_at_tags.Given as goal

abbrev pub invariant-loop-entry : goal.invariant-loop-entry
invariant-loop-entry g l = (k : ℕ) → k < l.entry → HasLinksAt (g.M.MetaPages.pages l.pages) l.dir (1022 * l.place.index + k)
