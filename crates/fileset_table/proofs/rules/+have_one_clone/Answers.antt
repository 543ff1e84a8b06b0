use Rattle.std.proofs.Common.{◌∙◌, sym}
use Rattle.fileset_table.specs.Table.{share_original}
use Rattle.fileset_table.proofs.Distinct.{else_case, none_case, then_case}
use Rattle.fileset_table.proofs.rules.+have_one_clone.Goals as goal

pub returns-in-empty : goal.returns-in-empty
returns-in-empty t c = none_case share_original c.args.slots.now c.in-empty.len_below

pub returns-then-has_other_original : goal.returns-then-has_other_original
returns-then-has_other_original t c =
    then_case share_original c.args.slots.now c.first-item.result c.in-len1-up.len_at_least c.first-item.is (sym c.has_other_original.ensures ∙ c.if-has_other_original.true) c.have_one_clone.result c.have_one_clone.ensures

pub returns-else-has_other_original : goal.returns-else-has_other_original
returns-else-has_other_original t c = else_case share_original c.args.slots.now c.first-item.result c.in-len1-up.len_at_least c.first-item.is c.has_other_original.result c.has_other_original.ensures c.if-has_other_original.false
