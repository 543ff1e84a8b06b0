-- Books of slots are those of a domain's filesets.
use Rattle.std.proofs.Common.{◌≡◌, ℕ, Option, Some, None, IsSomeAnd, slice_get}
use Rattle.std.specs.FinMap.{get}
use Rattle.no_faults.specs.page_store.Pages.{Pages}
use Rattle.no_faults.specs.fileset_model.Filesets.{FilesetMap}
use Rattle.no_faults.specs.fileset_model.declared.fileset.FilesetSlot.{FilesetSlot}
use Rattle.no_faults.specs.fileset_table.Table.{Table}
use Rattle.no_faults.specs.fileset_table.declared.slot.FilesetEntry.{FilesetEntry}
use Rattle.no_faults.specs.fileset_table.declared.slot.SlotItem.TheVariants as slots
use Rattle.no_faults.specs.quota_book.Book.{Book}
use Rattle.no_faults.specs.quota_book.Sums.{IsBookOf}
use Rattle.no_faults.specs.domain_layout.Filled.{AreFilled, Contents, FillsThere}
use Rattle.no_faults.specs.domain_layout.Shape.{AreShapesOf, FilesetShape, IsOriginal, Shapes}
use Rattle.attached_domain.specs.Books.{IsBookOfSlot}

pub all_books : (pages : Pages) (table : Table) (shapes : Shapes) (contents : Contents) (all : FilesetMap) (books : ℕ → Book) → AreShapesOf pages table shapes → AreFilled contents shapes all
    → ((number : ℕ) (entry : FilesetEntry) → slice_get table.slots number ≡ Some (slots.Original entry) → IsBookOfSlot pages number entry (books number))
    → (number : ℕ) (entry : FilesetEntry) → slice_get table.slots number ≡ Some (slots.Original entry) → IsSomeAnd (get all entry.name) (λ fileset. IsBookOf (books number) fileset.tree)
all_books pages table shapes contents all books are filled each number entry at =
    by_shape (shapes entry.name) (get all entry.name) (are.each number (slots.Original entry) at) (filled entry.name)
  where
    by_shape : (shape : Option FilesetShape) (slot : Option FilesetSlot) → IsSomeAnd shape (IsOriginal pages number entry) → FillsThere contents shape slot → IsSomeAnd slot (λ fileset. IsBookOf (books number) fileset.tree)
    by_shape None slot is fills = absurd is
    by_shape (Some shape) None is fills = absurd fills
    by_shape (Some shape) (Some slot) is fills = each number entry at shape contents slot is fills
