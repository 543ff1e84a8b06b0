use Rattle.std.proofs.Common.{◌≡◌, ◌+◌, ◌≤◌, length, vec_capacity, vec_len}
use Rattle.staged_pages.proofs.meta_pages.StagedPagesMetaPages.reserve.Given as goal

abbrev pub invariant-loop : goal.invariant-loop
invariant-loop l = record {
  entries : l.self.entries.items ≡ l.initial.self.entries.items;
  more : length l.initial.self.spare.items ≤ length l.self.spare.items;
  each : length l.self.spare.items ≡ l.counter;
  entries_fit : vec_len l.self.entries + l.want ≤ vec_capacity l.self.entries;
  changed_fit : vec_len l.self.entries + l.want ≤ vec_capacity l.self.changed;
  room : l.want ≤ vec_capacity l.self.spare;
}
