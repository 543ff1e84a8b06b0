use Rattle.table_tables.specs.Trial.{IsTrial}
use Rattle.table_tables.proofs.tag_random.same_calls.Given as goal

abbrev pub invariant-loop-call : goal.invariant-loop-call
invariant-loop-call l = IsTrial l.trial.pages l.trial.dir l.trial.last
