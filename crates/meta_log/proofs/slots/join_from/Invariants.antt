use Rattle.std.proofs.Common.{◌≡◌, ◌≤◌, drop, take, length}
use Rattle.log_ring.specs.Images.{joined}
use Rattle.meta_log.specs.Log.{images_at}
use Rattle.meta_log.proofs.slots.join_from.Given as goal

abbrev pub invariant-loop-home : goal.invariant-loop-home
invariant-loop-home g l = record {
  front : take l.first l.slots ≡ take l.first l.initial.slots;
  joined : drop l.first (take l.last l.slots) ≡ joined (take l.home-index (images_at (g.M.MetaPages.pages l.pages) l.homes)) (drop l.first (take l.end l.initial.slots));
  end : l.end ≤ l.last;
  within : l.last ≤ length l.slots;
}
