use Rattle.std.proofs.Common.{◌∙◌, ap}
use Rattle.std.specs.Ordering.{nat_cmp}
use Rattle.std.specs.FinMap as map
use Rattle.sorted_sets.proofs.EntryLemmas.{from_sorted-empty}
use Rattle.fileset_model.proofs.page_map.PageMap.new.Goals as goal

pub returns : goal.returns
returns c = ap map.from_sorted c.new.ensures.items ∙ from_sorted-empty nat_cmp
