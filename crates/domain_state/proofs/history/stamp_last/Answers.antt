use Rattle.std.proofs.Common.{◌∙◌, ◌-◌, arith, slice_set}
use Rattle.no_faults.specs.legal_histories.GoingOn.{stamped}
use Rattle.domain_state.proofs.Stamping.{stamped_set}
use Rattle.domain_state.proofs.history.stamp_last.Goals as goal

pub returns-then-count-gt0-clause-items : goal.returns-then-count-gt0-clause-items
returns-then-count-gt0-clause-items c =
    let items = c.args.entries.now.items in
    let at = c.len-count.result - 1 in
    (λ i. slice_set items at (stamped c.args.stamp (c.index_mut.ensures.value i)))
    ∙ stamped_set c.args.stamp items at c.index_mut.result.now (omega (arith, c.len-count.ensures, c.if-count-gt0.true))
