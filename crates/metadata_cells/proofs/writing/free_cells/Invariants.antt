use Rattle.std.proofs.Common.{◌≡◌, ◌+◌, ◌*◌, ◌≤◌, take, slice_index, nat_eq}
use Rattle.std.specs.List.{count_by, range_with_len}
use Rattle.metadata_cells.proofs.writing.free_cells.Given as goal

abbrev pub invariant-loop-cell : goal.invariant-loop-cell
invariant-loop-cell l = record { counted : l.count ≡ count_by (λ cell. nat_eq (slice_index l.page (31 + 292 * cell)) 0) (take l.cell (range_with_len 0 28)); within : l.count ≤ l.cell }
