use Rattle.std.proofs.Common.{◌∙◌, IsTrue, ap, subst, sym, arith}
use Rattle.std.proofs.lemmas.Grind.{common_steps}
use Rattle.std.proofs.lemmas.List.{take_all}
use Rattle.std.proofs.lemmas.List.Elements.{filter_map-append}
use Rattle.std.specs.FinMap.Entries.{is_sorted}
use Rattle.quota_book.specs.fileset_values.Orders.{owner_cmp}
use Rattle.quota_book.specs.QuotaCells.{Said, said_by}
use Rattle.release_steps.proofs.SaidRecords.{said_sorted}
use Rattle.release_steps.proofs.records.read_said.Goals as goal

pub loop-value-preserved : goal.loop-value-preserved
loop-value-preserved c = grind (arith, common_steps, filter_map-append)

pub returns-clause-sorted : goal.returns-clause-sorted
returns-clause-sorted c =
    let records = c.args.records.now in
    let all = c.loop-value.invariant ∙ ap said_by (take_all c.loop-value.value-index records c.loop-value-test.false) in
    subst (λ (said : Said). IsTrue (is_sorted owner_cmp said)) (sym all) (said_sorted records c.requires)
