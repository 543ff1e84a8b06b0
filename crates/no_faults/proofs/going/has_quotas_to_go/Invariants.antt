use Rattle.std.proofs.Common.{ℕ, ◌<◌}
use Rattle.no_faults.specs.Going.{NamesFirst}
use Rattle.no_faults.proofs.going.has_quotas_to_go.Given as goal

abbrev pub invariant-loop-number : goal.invariant-loop-number
invariant-loop-number g l = (k : ℕ) → k < l.number → NamesFirst (g.M.MetaPages.pages l.pages) l.links l.table k
