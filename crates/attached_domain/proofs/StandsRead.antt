-- Memory that was read stands for the filesets that its pages have.
use Rattle.std.proofs.Common.{◌≡◌, ◌∙◌, ℕ, List, Option, Some, None, IsSomeAnd, slice_get, sym, ap, subst}
use Rattle.no_faults.specs.domain_base.declared.place.Home.{Home}
use Rattle.no_faults.specs.page_store.Pages.{Pages}
use Rattle.no_faults.specs.fileset_model.Filesets.{FilesetMap}
use Rattle.no_faults.specs.fileset_table.Page.{IsTablePage}
use Rattle.no_faults.specs.fileset_table.Table.{Table}
use Rattle.no_faults.specs.fileset_table.declared.slot.FilesetEntry.{FilesetEntry}
use Rattle.no_faults.specs.fileset_table.declared.slot.SlotItem.TheVariants as slot
use Rattle.no_faults.proofs.OfFilesetTable.Unique.{table_unique}
use Rattle.no_faults.specs.staged_pages.Store.{before_of}
use Rattle.no_faults.specs.domain_layout.Filled.{AreFilled}
use Rattle.no_faults.specs.domain_layout.Layout.{IsLayout, Layout}
use Rattle.no_faults.specs.domain_layout.Owners.{frame_of}
use Rattle.no_faults.specs.domain_layout.Reached.{Frame}
use Rattle.no_faults.specs.domain_layout.Read.{ReadsFrom, contents_of}
use Rattle.no_faults.specs.domain_layout.Shape.{AreShapesOf, Shapes}
use Rattle.no_faults.specs.domain_standing.Standing.{AreBooksOf}
use Rattle.no_faults.specs.domain_memory.Slots.{kept_book, slot_in}
use Rattle.no_faults.specs.domain_memory.declared.slots.SlotFiles.{SlotFiles}
use Rattle.no_faults.specs.domain_memory.Memory.{StandsFor, books_in, kept_in, with_was}
use Rattle.no_faults.specs.domain_memory.Staged.{IsSettled, MayGoBack}
use Rattle.no_faults.specs.domain_memory.declared.memory.DomainMemory.{DomainMemory}
use Rattle.attached_domain.specs.Books.{IsBookOfSlot}
use Rattle.attached_domain.proofs.AllBooks.{all_books}
use Rattle.attached_domain.specs.Read.{IsReadMemory, MayBeAttached}
use Rattle.attached_domain.proofs.ReadMemory.{goes_back, settled, stands_for}

-- a home has one table at most
one_table : (pages : Pages) (layout : Layout) → IsLayout pages layout → (home : Home) → layout.anchor.table ≡ Some home
    → (table : Table) → IsSomeAnd (pages home) (λ page. IsTablePage page table) → table ≡ layout.table
one_table pages layout laid home at table there =
    by_page (pages home) there (subst (λ (o : Option Home). IsSomeAnd o (λ place. IsSomeAnd (pages place) (λ page. IsTablePage page layout.table))) at laid.table)
  where
    by_page : (o : Option (List ℕ)) → IsSomeAnd o (λ page. IsTablePage page table) → IsSomeAnd o (λ page. IsTablePage page layout.table) → table ≡ layout.table
    by_page None is was = absurd is
    by_page (Some page) is was = table_unique page table layout.table is was

module _ (m : DomainMemory) (layout : Layout) (is : IsReadMemory m layout) (may : MayBeAttached (before_of m.pages) layout)
    (books : (number : ℕ) (entry : FilesetEntry) → slice_get layout.table.slots number ≡ Some (slot.Original entry) → IsBookOfSlot (before_of m.pages) number entry (kept_book (slot_in m.slots.items number))) where
  table_kept : with_was m.was m.table ≡ layout.table
  table_kept = ap (λ w. with_was w m.table) is.was ∙ sym is.table

  books_kept : (shapes : Shapes) (all : FilesetMap) → AreShapesOf (before_of m.pages) layout.table shapes → AreFilled (contents_of (before_of m.pages)) shapes all → AreBooksOf (books_in m) (kept_in m) all
  books_kept shapes all are filled = λ number entry there.
      all_books (before_of m.pages) layout.table shapes (contents_of (before_of m.pages)) all (books_in m) are filled books number entry
      (subst (λ (t : Table). slice_get t.slots number ≡ Some (slot.Original entry)) table_kept there)

  pub stands_read : (home : Home) (all : FilesetMap) → layout.anchor.table ≡ Some home → ReadsFrom (before_of m.pages) home all → StandsFor m all
  stands_read home all at reads =
      let shapes = reads.shapes in
      let same : reads.shaped.table ≡ layout.table = one_table (before_of m.pages) layout may.whole.laid home at reads.shaped.table reads.shaped.there in
      let are : AreShapesOf (before_of m.pages) layout.table shapes = subst (λ (t : Table). AreShapesOf (before_of m.pages) t shapes) same reads.shaped.are in
      stands_for m layout is may shapes all are reads.filled (books_kept shapes all are reads.filled)

-- the same by what was read, and its frame
module _ (m : DomainMemory) (now : Pages) (frame : Frame) (same : now ≡ before_of m.pages) (layout : Layout) (is : IsReadMemory m layout) (may : MayBeAttached now layout) (framed : frame_of layout ≡ frame)
    (slots : List (Option SlotFiles)) (slots_are : m.slots.items ≡ slots)
    (books : (number : ℕ) (entry : FilesetEntry) → slice_get layout.table.slots number ≡ Some (slot.Original entry) → IsBookOfSlot now number entry (kept_book (slot_in slots number))) where
  may_now : MayBeAttached (before_of m.pages) layout
  may_now = subst (λ (p : Pages). MayBeAttached p layout) same may

  books_now : (number : ℕ) (entry : FilesetEntry) → slice_get layout.table.slots number ≡ Some (slot.Original entry) → IsBookOfSlot (before_of m.pages) number entry (kept_book (slot_in m.slots.items number))
  books_now =
      subst (λ (p : Pages). (number : ℕ) (entry : FilesetEntry) → slice_get layout.table.slots number ≡ Some (slot.Original entry) → IsBookOfSlot p number entry (kept_book (slot_in m.slots.items number))) same
      (subst (λ (s : List (Option SlotFiles)). (number : ℕ) (entry : FilesetEntry) → slice_get layout.table.slots number ≡ Some (slot.Original entry) → IsBookOfSlot now number entry (kept_book (slot_in s number))) (sym slots_are) books)

  pub all_stands : (home : Home) (all : FilesetMap) → frame.anchor.table ≡ Some home → ReadsFrom (before_of m.pages) home all → StandsFor m all
  all_stands home all at reads = stands_read m layout is may_now books_now home all (ap (λ (f : Frame). f.anchor.table) framed ∙ at) reads

  pub is_settled : IsSettled m
  is_settled = settled m layout is may_now

  pub may_go_back : MayGoBack m
  may_go_back = goes_back m layout is may_now
