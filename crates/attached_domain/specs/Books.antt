-- The book of the original in a slot.
use Rattle.std.specs.Prelude.{ℕ}
use Rattle.no_faults.specs.page_store.Pages.{Pages}
use Rattle.no_faults.specs.fileset_model.declared.fileset.FilesetSlot.{FilesetSlot}
use Rattle.no_faults.specs.fileset_table.declared.slot.FilesetEntry.{FilesetEntry}
use Rattle.no_faults.specs.quota_book.Book.{Book}
use Rattle.no_faults.specs.quota_book.Sums.{IsBookOf}
use Rattle.no_faults.specs.domain_layout.Filled.{Contents, Fills}
use Rattle.no_faults.specs.domain_layout.Shape.{FilesetShape, IsOriginal}

-- it is that of whichever fileset the slot's pages are filled to
abbrev pub IsBookOfSlot : Pages → ℕ → FilesetEntry → Book → Type 0
IsBookOfSlot pages number entry book =
    (shape : FilesetShape) (contents : Contents) (slot : FilesetSlot)
    → IsOriginal pages number entry shape → Fills contents shape slot → IsBookOf book slot.tree
