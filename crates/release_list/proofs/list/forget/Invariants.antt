use Rattle.std.proofs.Common.{◌≡◌, ◌++◌, drop, map, take, vec_capacity, vec_len}
use Rattle.release_list.specs.Listing.{without}
use Rattle.release_list.proofs.list.forget.Given as goal

abbrev pub invariant-loop-i : goal.invariant-loop-i
invariant-loop-i l = record {
  items : l.entries.items ≡ map (without l.at) (take l.i l.fn.entries.items) ++ drop l.i l.fn.entries.items;
  len : vec_len l.entries ≡ vec_len l.fn.entries;
  capacity : vec_capacity l.entries ≡ vec_capacity l.fn.entries;
}
