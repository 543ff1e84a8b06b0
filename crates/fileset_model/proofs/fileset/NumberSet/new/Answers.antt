use Rattle.std.proofs.Common.{◌∙◌, ap}
use Rattle.std.specs.Ordering.{nat_cmp}
use Rattle.std.specs.FinMap.{from_sorted}
use Rattle.sorted_sets.proofs.EntryLemmas.{from_sorted-empty}
use Rattle.fileset_model.proofs.fileset.NumberSet.new.Goals as goal

pub returns : goal.returns
returns c = ap from_sorted c.new.ensures.items ∙ from_sorted-empty nat_cmp
