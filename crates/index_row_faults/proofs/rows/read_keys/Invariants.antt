use Rattle.std.proofs.Common.{◌≡◌, ℕ, take}
use Rattle.std.specs.List.{count_by}
use Rattle.page_faults.specs.domain_base.declared.place.Tag.{Tag}
use Rattle.index_row_faults.specs.Counts.{is_key}
use Rattle.index_row_faults.specs.Keys.{has_key, keys_in}
use Rattle.index_row_faults.proofs.rows.read_keys.Given as goal

abbrev pub invariant-loop-row : goal.invariant-loop-row
invariant-loop-row l = (dir : Tag) (hash page : ℕ) → count_by (is_key hash page) (keys_in l.keys dir) ≡ count_by (has_key dir hash page) (take l.row-index l.rows)
