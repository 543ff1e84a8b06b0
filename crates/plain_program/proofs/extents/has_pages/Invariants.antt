use Rattle.std.proofs.Common.{◌<◌, ◌≤◌, ℕ, IsTrue}
use Rattle.std.specs.FinMap.{contains_key}
use Rattle.plain_program.proofs.extents.has_pages.Given as goal

abbrev pub invariant-loop-q : goal.invariant-loop-q
invariant-loop-q l = (page : ℕ) → l.first ≤ page → page < l.q → IsTrue (contains_key l.pages page)
