use Rattle.std.proofs.Common.{◌≡◌, ◌-◌, ◌≤◌, count_by, not}
use Rattle.std.specs.List.{range_with_len}
use Rattle.std.specs.FinMap.{contains_key}
use Rattle.fileset_model.proofs.page_map.PageMap.count_absent.Given as goal

abbrev pub invariant-loop-q : goal.invariant-loop-q
invariant-loop-q l = record {
  counted : l.absent ≡ count_by (λ q. not (contains_key l.self q)) (range_with_len l.first (l.q - l.first));
  few : l.absent ≤ l.q - l.first;
}
