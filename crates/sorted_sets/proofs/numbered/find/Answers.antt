use Rattle.std.proofs.Common.{sym}
use Rattle.sorted_sets.proofs.Search.{value_at_place, value_in_gap}
use Rattle.sorted_sets.proofs.numbered.find.Goals as goal

pub returns-in-Ok : goal.returns-in-Ok
returns-in-Ok g c = sym (value_at_place _ _ _ c.in-Ok.ensures.place c.requires c.index-entries-place.result)

pub returns-in-Err : goal.returns-in-Err
returns-in-Err g c = sym (value_in_gap _ _ _ c.in-Err.ensures.gap)
