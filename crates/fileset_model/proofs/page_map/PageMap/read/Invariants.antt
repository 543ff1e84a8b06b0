use Rattle.std.proofs.Common.{◌≡◌, ◌-◌, ◌≤◌, map}
use Rattle.std.specs.List.{range_with_len}
use Rattle.fileset_model.specs.Pages.{byte_at}
use Rattle.fileset_model.proofs.page_map.PageMap.read.Given as goal

abbrev pub invariant-loop-x : goal.invariant-loop-x
invariant-loop-x l = record {
  bytes : l.bytes.items ≡ map (byte_at l.self) (range_with_len l.offset (l.x - l.offset));
  above : l.offset ≤ l.x;
  within : l.x ≤ l.end;
}

abbrev pub decreases-loop-x : goal.decreases-loop-x
decreases-loop-x l = l.end - l.x
