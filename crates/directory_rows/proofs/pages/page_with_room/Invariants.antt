use Rattle.std.proofs.Common.{◌≡◌, ℕ, ◌<◌, false}
use Rattle.directory_rows.specs.Directory.{row_pages}
use Rattle.directory_rows.specs.RowChanges.{fits_at}
use Rattle.directory_rows.proofs.pages.page_with_room.Given as goal

abbrev pub invariant-loop-number : goal.invariant-loop-number
invariant-loop-number g l =
    (before : ℕ) → before < l.number → fits_at l.name before (row_pages (g.S.BitfileSet.files l.set) l.dir) ≡ false
