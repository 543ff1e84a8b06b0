use Rattle.std.proofs.Common.{ap, ◌∙◌}
use Rattle.std.specs.Ordering.{nat_cmp}
use Rattle.std.specs.Cmp.{nat_cmp_total}
use Rattle.std.specs.FinMap.{from_sorted, insert}
use Rattle.std.specs.FinSet.{FinSet}
use Rattle.sorted_sets.proofs.EntryLemmas.{insert-from_sorted}
use Rattle.fileset_model.proofs.fileset.NumberSet.insert.Goals as goal

pub returns-clause-ok : goal.returns-clause-ok
returns-clause-ok c =
    ap from_sorted c.in_ok-put.ensures.ok
    ∙ insert-from_sorted nat_cmp_total c.self.inside.numbers.items c.args.number tt c.self.invariant
    ∙ ap (λ (numbers : FinSet nat_cmp). insert numbers c.args.number tt) c.self.view_is
