use Rattle.std.proofs.Common.{◌≡◌, ◌-◌, map}
use Rattle.std.specs.List.{range_with_len}
use Rattle.std.specs.FinMap.{from_sorted}
use Rattle.std.specs.Ordering.{nat_cmp}
use Rattle.fileset_model.specs.Pages.{page_after}
use Rattle.fileset_model.proofs.page_map.pages_after.Given as goal

abbrev pub invariant-loop-q : goal.invariant-loop-q
invariant-loop-q l = l.changed.items ≡ map (λ q. (q, page_after (from_sorted {R = nat_cmp} l.pages) l.offset l.bytes q)) (range_with_len l.first (l.q - l.first))
