use Rattle.std.proofs.Common.{◌<◌, ℕ, get_or, IsTrue}
use Rattle.legal_histories.specs.Volumes.{IsInRun}
use Rattle.std.specs.FinMap.{contains_key}
use Rattle.legal_histories.specs.fileset_values.declared.reply.ExtentItem.{ExtentItem}
use Rattle.plain_program.proofs.extents.have_pages.Given as goal

abbrev pub invariant-loop-run : goal.invariant-loop-run
invariant-loop-run l = (k : ℕ) (d : ExtentItem) → k < l.run-index
    → (0 < (get_or l.runs k d).count) × ((q : ℕ) → IsInRun q (get_or l.runs k d) → IsTrue (contains_key l.pages q))
