use Rattle.std.proofs.Common.{◌≡◌, ◌+◌, ◌≤◌, length, vec_len, vec_capacity, IsTrue}
use Rattle.std.specs.Ordering.{nat_cmp}
use Rattle.std.specs.FinMap.Entries.{is_sorted}
use Rattle.sorted_sets.specs.Entries.{put_each}
use Rattle.fileset_model.proofs.page_map.put_pages.Given as goal

abbrev pub invariant-loop-q : goal.invariant-loop-q
invariant-loop-q l = record {
  put_so_far : l.pages.items ≡ put_each nat_cmp l.yielded l.fn.pages.items;
  sorted : IsTrue (is_sorted nat_cmp l.pages.items);
  room : vec_len l.pages + vec_len l.fn.changed ≤ vec_capacity l.pages + length l.yielded;
}
