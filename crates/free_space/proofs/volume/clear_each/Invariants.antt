use Rattle.std.proofs.Common.{◌≡◌, take}
use Rattle.std.specs.FinSet.{difference, from_list}
use Rattle.free_space.proofs.volume.clear_each.Given as goal

abbrev pub invariant-loop-page : goal.invariant-loop-page
invariant-loop-page l = l.map ≡ record l.initial.map { used = difference l.initial.map.used (from_list (take l.page-index l.pages)) }
