use Rattle.std.proofs.Common.{◌≡◌, map, take}
use Rattle.fileset_model.proofs.page_map.PageMap.numbers.Given as goal

abbrev pub invariant-loop-q : goal.invariant-loop-q
invariant-loop-q l = l.numbers.items ≡ map (λ e. e.0) (take l.q-index l.q-items)
