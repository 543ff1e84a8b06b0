use Rattle.std.proofs.Common.{◌≡◌, ℕ, length, vec_capacity, vec_len}
use Rattle.std.specs.Option.{option_and_then}
use Rattle.page_store.specs.sorted_sets.Rising.{value_at}
use Rattle.staged_pages.specs.Slots.{page_now}
use Rattle.staged_pages.specs.Staged.{AreSlots}
use Rattle.staged_pages.proofs.settle.settle_all.Given as goal

abbrev pub invariant-loop-home : goal.invariant-loop-home
invariant-loop-home l = record {
  slots : AreSlots l.entries.items l.changed.items;
  pages : (q : ℕ) → option_and_then page_now (value_at l.entries.items q) ≡ option_and_then page_now (value_at l.initial.entries.items q);
  len : vec_len l.entries ≡ vec_len l.initial.entries;
  capacity : vec_capacity l.entries ≡ vec_capacity l.initial.entries;
  list_room : vec_capacity l.changed ≡ vec_capacity l.initial.changed;
}

abbrev pub decreases-loop-home : goal.decreases-loop-home
decreases-loop-home l = length l.changed.items
