use Rattle.std.proofs.Common.{◌∙◌, sym}
use Rattle.fileset_table.specs.Table.{share_name}
use Rattle.fileset_table.proofs.Distinct.{else_case, none_case, then_case}
use Rattle.fileset_table.proofs.rules.+have_own_names.Goals as goal

pub returns-in-empty : goal.returns-in-empty
returns-in-empty t c = none_case share_name c.args.slots.now c.in-empty.len_below

pub returns-then-has_own_name : goal.returns-then-has_own_name
returns-then-has_own_name t c =
    then_case share_name c.args.slots.now c.first-item.result c.in-len1-up.len_at_least c.first-item.is (sym c.has_own_name.ensures ∙ c.if-has_own_name.true) c.have_own_names.result c.have_own_names.ensures

pub returns-else-has_own_name : goal.returns-else-has_own_name
returns-else-has_own_name t c = else_case share_name c.args.slots.now c.first-item.result c.in-len1-up.len_at_least c.first-item.is c.has_own_name.result c.has_own_name.ensures c.if-has_own_name.false
