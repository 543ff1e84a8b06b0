use Rattle.table_tables.specs.Trial.{IsTrial}
use Rattle.table_tables.proofs.tags.fill.Given as goal

abbrev pub invariant-loop-page : goal.invariant-loop-page
invariant-loop-page l = IsTrial l.trial.pages l.trial.dir l.trial.last
