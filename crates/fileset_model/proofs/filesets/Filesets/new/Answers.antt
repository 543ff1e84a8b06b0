use Rattle.std.proofs.Common.{◌∙◌, ap}
use Rattle.std.specs.FinMap as map
use Rattle.fileset_values.specs.Orders.{name_cmp}
use Rattle.sorted_sets.proofs.EntryLemmas.{from_sorted-empty}
use Rattle.fileset_model.proofs.filesets.Filesets.new.Goals as goal

pub returns : goal.returns
returns c = ap map.from_sorted c.new.ensures.items ∙ from_sorted-empty name_cmp
