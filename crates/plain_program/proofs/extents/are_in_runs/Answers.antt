use Rattle.std.proofs.Common.{ℕ, IsTrue, get_or, subst}
use borrow.Author.Count.{below_more}
use Rattle.std.specs.List.{Any}
use Rattle.std.proofs.lemmas.List.{get_or_default}
use Rattle.legal_histories.specs.Volumes.{IsInRun}
use Rattle.plain_program.proofs.extents.are_in_runs.Goals as goal

pub returns-then-not-is_in_runs : goal.returns-then-not-is_in_runs
returns-then-not-is_in_runs c = (
  λ never. absurd (cc),
  λ each.
      let found : IsTrue c.is_in_runs.result = c.is_in_runs.ensures.1 (each c.loop-q.q-index 0 c.loop-q-test.true) in absurd (cc),
)

pub loop-q-preserved : goal.loop-q-preserved
loop-q-preserved c k d below =
    below_more (λ n. (d : ℕ) → Any (IsInRun (get_or c.args.numbers.now n d)) c.args.runs.now) c.loop-q.q-index
    (λ n h d. c.loop-q.invariant n d h)
    (λ d. subst (λ q. Any (IsInRun q) c.args.runs.now) (get_or_default c.args.numbers.now c.loop-q.q-index 0 d c.loop-q-test.true) (c.is_in_runs.ensures.0 (cc)))
    k below d
