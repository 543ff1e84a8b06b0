use Rattle.std.proofs.Common.{ℕ, ◌<◌}
use Rattle.filesets_reading.specs.Domain.{HasFilesOf}
use Rattle.filesets_reading.proofs.domain.read_domain.Given as goal

abbrev pub invariant-loop-n : goal.invariant-loop-n
invariant-loop-n g l = (k : ℕ) → k < l.n → HasFilesOf (g.M.MetaPages.pages l.pages) l.tables k
