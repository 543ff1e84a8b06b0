use Rattle.fileset_shapes.proofs.Answered.{on_ok}
use Rattle.fileset_shapes.proofs.Said.{limits_there}
use Rattle.fileset_shapes.proofs.limits.set_limits.Goals as goal

pub returns-clause-limits : goal.returns-clause-limits
returns-clause-limits c =
    on_ok c.take_limits.result _ _
    (λ takes. limits_there c.args.entry.now c.args.records.now c.take_all.new.tree c.take_limits.new.tree c.in_ok-take_all.ensures.said takes) c.take_limits.ensures.takes
