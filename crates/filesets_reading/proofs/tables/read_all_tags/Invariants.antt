use Rattle.std.proofs.Common.{◌≡◌, ℕ, ◌<◌, IsSomeAnd, length, slice_get}
use Rattle.filesets_reading.specs.Tables.{HasTagsOf}
use Rattle.filesets_reading.proofs.tables.read_all_tags.Given as goal

abbrev pub invariant-loop-number : goal.invariant-loop-number
invariant-loop-number g l = record {
  count : length l.tags.items ≡ l.number;
  each : (k : ℕ) → k < l.number → IsSomeAnd (slice_get l.tags.items k) (HasTagsOf (g.M.MetaPages.pages l.pages) l.filesets k);
}
