use Rattle.std.proofs.Common.{◌≡◌, ◌≤◌, drop, take, length}
use Rattle.log_ring.specs.Images.{joined}
use Rattle.meta_log.proofs.slots.join.Given as goal

abbrev pub invariant-loop-image : goal.invariant-loop-image
invariant-loop-image l = record {
  front : take l.first l.slots ≡ take l.first l.initial.slots;
  joined : drop l.first (take l.last l.slots) ≡ joined (take l.image-index l.change) (drop l.first (take l.end l.initial.slots));
  end : l.end ≤ l.last;
  within : l.last ≤ length l.slots;
}
