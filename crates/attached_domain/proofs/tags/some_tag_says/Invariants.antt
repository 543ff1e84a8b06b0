use Rattle.std.proofs.Common.{ℕ, ◌<◌}
use Rattle.attached_domain.proofs.Looked.{LeadsElse}
use Rattle.attached_domain.proofs.tags.some_tag_says.Given as goal

abbrev pub invariant-loop-i : goal.invariant-loop-i
invariant-loop-i g l = (k : ℕ) → k < l.i → LeadsElse (g.M.MetaPages.pages l.pages) l.sign l.dir l.tags.items k
