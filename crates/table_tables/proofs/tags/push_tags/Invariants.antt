use Rattle.table_tables.specs.Trial.{IsTrial}
use Rattle.table_tables.proofs.tags.push_tags.Given as goal

abbrev pub invariant-loop-line : goal.invariant-loop-line
invariant-loop-line l = IsTrial l.trial.pages l.trial.dir l.trial.last
