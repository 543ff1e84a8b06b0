-- What is read of a domain besides its pages is what these say.
use Rattle.std.proofs.Common.{◌≡◌, ◌∙◌, ℕ, ◌≤◌, List, Option, Some, None, IsSome, IsSomeAnd, slice_get, refl, sym, ap, subst, arith}
use Rattle.no_faults.specs.domain_base.Limits.{max_volume_pages_4}
use Rattle.no_faults.specs.domain_base.Version.{most_pages}
use Rattle.no_faults.specs.domain_base.declared.place.Home.{Home}
use Rattle.no_faults.specs.domain_base.declared.version.Version.{Version}
use Rattle.no_faults.specs.domain_base.declared.version.Version.TheVariants.{Four, Three}
use Rattle.no_faults.specs.page_store.Pages.{Pages}
use Rattle.no_faults.specs.tag_dirs.Directory.{IsDirectoryAt}
use Rattle.no_faults.specs.cell_chains.declared.links.CellLinks.{CellLinks}
use Rattle.no_faults.specs.cell_faults.Links.{AreLinks}
use Rattle.no_faults.specs.fileset_table.Page.{IsTablePage}
use Rattle.no_faults.specs.fileset_table.Table.{IsTable, Table}
use Rattle.no_faults.specs.fileset_table.declared.slot.FilesetEntry.{FilesetEntry}
use Rattle.no_faults.specs.fileset_table.declared.slot.SlotItem.TheVariants as slot
use Rattle.no_faults.proofs.OfDomainLayout.NoTables.{none_of_tables}
use Rattle.no_faults.specs.domain_layout.Faults.{SaysTable}
use Rattle.no_faults.specs.domain_layout.Layout.{IsLayout, Layout}
use Rattle.no_faults.specs.domain_layout.Owners.{frame_of}
use Rattle.no_faults.specs.domain_layout.Reached.{Frame}
use Rattle.no_faults.specs.log_ring.Homes.{IsMember, member_of}
use Rattle.no_faults.proofs.OfDomainLayout.OnePage.{one_of}
use Rattle.no_faults.specs.filesets_reading.Good.{AreGood}
use Rattle.no_faults.specs.domain_memory.Slots.{kept_book, places_in, slot_in}
use Rattle.no_faults.specs.domain_memory.declared.slots.SlotFiles.{SlotFiles}
use Rattle.no_faults.specs.filesets_reading.Tables.{AreTablesOf}
use Rattle.no_faults.specs.filesets_reading.declared.tables.DomainTables.{DomainTables}
use Rattle.attached_domain.specs.Books.{IsBookOfSlot}
use Rattle.attached_domain.specs.Read.{IsReadAs}
use Rattle.attached_domain.specs.Slots.{AreReadSlots}
use Rattle.attached_domain.proofs.SlotsRead.{numbered, settled, their_pages}
use Rattle.attached_domain.specs.Causes.{MayBeRead}
use Rattle.attached_domain.specs.Fits.{Fits}
use Rattle.attached_domain.specs.Parts.{AreParts, GetTheirBooks}
use Rattle.attached_domain.specs.declared.parts.DomainParts.{DomainParts}
use Rattle.attached_domain.proofs.Fitting.{linked_at, no_tables_fault}
use Rattle.attached_domain.proofs.Looked.{good_table}
use Rattle.attached_domain.proofs.MayAttach.{domain_read, laid_so, layout_so, may_attach, none_so, tags_if}

-- a slot whose tag directory has a first page has something
there_by : (pages : Pages) (first : Home) (o : Option SlotFiles) → IsDirectoryAt pages first (places_in o) → IsSome o
there_by pages first None directory = absurd directory.begins
there_by pages first (Some files) directory = refl

module _ (pages : Pages) (frame : Frame) (may : MayBeRead pages frame) (tables : DomainTables) (are : AreTablesOf pages frame tables) (fits : Fits pages (layout_so pages frame may tables are) tables)
    (links : CellLinks) (linked : AreLinks pages frame links)
    (old new : List (Option SlotFiles)) (read : AreReadSlots pages tables.filesets old) (get : GetTheirBooks pages tables.filesets old new) where
  read_so : AreReadSlots pages are.layout.table old
  read_so = subst (λ (t : Table). AreReadSlots pages t old) (sym are.table) read

  pages_old : (number : ℕ) → places_in (slot_in old number) ≡ (layout_so pages frame may tables are).tags number
  pages_old number =
      their_pages pages old number (layout_so pages frame may tables are) (laid_so pages are.layout are.laid) (good_table pages are.layout are.laid) read_so (none_so are.layout)

  some_old : (number : ℕ) (entry : FilesetEntry) → slice_get are.layout.table.slots number ≡ Some (slot.Original entry) → IsSome (slot_in old number)
  some_old number entry there =
      let same : places_in (slot_in old number) ≡ are.layout.tags number = pages_old number ∙ ap (λ o. tags_if o (are.layout.tags number)) there in
      there_by pages entry.first_tag (slot_in old number) (subst (IsDirectoryAt pages entry.first_tag) (sym same) (are.laid.tags number (slot.Original entry) there))

  as_read : IsReadAs pages frame tables.filesets links new (layout_so pages frame may tables are)
  as_read = record {
    framed = are.is;
    tabled = are.table;
    laid = laid_so pages are.layout are.laid;
    no_fault = no_tables_fault pages frame tables (domain_read pages frame may tables are) are.layout are.is;
    linked = linked_at pages frame tables (domain_read pages frame may tables are) are.layout are.is links linked;
    tags = λ number. (get.each number).places ∙ pages_old number;
    none = none_so are.layout;
    settled = λ number. (get.each number).settled (settled pages old number tables.filesets read);
    count = get.count ∙ read.count;
    numbered = λ number. (get.each number).numbered (numbered pages old number tables.filesets read);
  }

  books : (number : ℕ) (entry : FilesetEntry) → slice_get are.layout.table.slots number ≡ Some (slot.Original entry) → IsBookOfSlot pages number entry (kept_book (slot_in new number))
  books number entry there =
      (get.each number).book entry (subst (λ (t : Table). slice_get t.slots number ≡ Some (slot.Original entry)) are.table there) ((get.each number).there (some_old number entry there))

  pub are_parts : (parts : DomainParts) → parts.table ≡ tables.filesets → parts.links ≡ links → parts.slots.items ≡ new → AreParts pages frame parts
  are_parts parts table_is links_is slots_is = record {
    layout = layout_so pages frame may tables are;
    may = may_attach pages frame may tables are fits;
    read = subst (λ (t : Table). IsReadAs pages frame t parts.links parts.slots.items (layout_so pages frame may tables are)) (sym table_is)
        (subst (λ (l : CellLinks). IsReadAs pages frame tables.filesets l parts.slots.items (layout_so pages frame may tables are)) (sym links_is)
        (subst (λ (s : List (Option SlotFiles)). IsReadAs pages frame tables.filesets links s (layout_so pages frame may tables are)) (sym slots_is) as_read));
    books = subst (λ (s : List (Option SlotFiles)). (number : ℕ) (entry : FilesetEntry) → slice_get are.layout.table.slots number ≡ Some (slot.Original entry) → IsBookOfSlot pages number entry (kept_book (slot_in s number)))
        (sym slots_is) books;
  }

-- ---- what the reading of memory asks

most_few : (version : Version) (n : ℕ) → n ≤ most_pages version → n ≤ max_volume_pages_4
most_few Three n few = omega (arith, few)
most_few Four n few = few

pub few_pages : (pages : Pages) (frame : Frame) → MayBeRead pages frame → (vol : ℕ) → IsMember frame.anchor vol → (member_of frame.anchor vol).pages ≤ max_volume_pages_4
few_pages pages frame may vol member = most_few frame.version (member_of frame.anchor vol).pages (may.few vol member)

-- pages that are laid out with a table say it
says_laid : (pages : Pages) (frame : Frame) (layout : Layout) → frame_of layout ≡ frame → IsLayout pages layout → SaysTable pages frame layout.table
says_laid pages frame layout framed laid =
    let table = one_of layout.anchor.table (λ home. IsSomeAnd (pages home) (λ page. IsTablePage page layout.table)) laid.table in
    subst (λ (f : Frame). SaysTable pages f layout.table) framed (record { home = table.value; at = table.there; there = table.is })

pub says_read : (pages : Pages) (frame : Frame) (tables : DomainTables) → AreTablesOf pages frame tables → SaysTable pages frame tables.filesets
says_read pages frame tables are = subst (λ (t : Table). SaysTable pages frame t) are.table (says_laid pages frame are.layout are.is are.laid)

module _ (pages : Pages) (frame : Frame) (may : MayBeRead pages frame) (parts : DomainParts) (are : AreParts pages frame parts) where
  pub good_parts : AreGood pages frame
  good_parts = record {
    table = are.layout.table;
    says = says_laid pages frame are.layout are.read.framed are.read.laid;
    version = may.named.0;
    no_fault = none_of_tables pages frame may.no_fault;
  }

  pub table_parts : IsTable parts.table
  table_parts = subst IsTable are.read.tabled (good_table pages are.layout are.read.laid)
