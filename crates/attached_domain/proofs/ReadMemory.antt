-- Memory that was read of pages without a fault stands for the filesets that the pages have.
use Rattle.std.proofs.Common.{◌≡◌, ◌∙◌, ℕ, List, Option, Some, None, IfSome, slice_get, refl, sym, ap, subst, arith}
use Rattle.std.proofs.lemmas.List.{take_all}
use Rattle.no_faults.specs.fileset_model.Filesets.{FilesetMap}
use Rattle.no_faults.specs.log_ring.Homes.{IsMember}
use Rattle.no_faults.specs.domain_base.declared.place.Home.{Home}
use Rattle.no_faults.specs.page_store.Pages.{Pages}
use Rattle.no_faults.specs.tag_dirs.declared.dir.TagPlace.{TagPlace}
use Rattle.no_faults.specs.free_cells.Cells.{table_of}
use Rattle.no_faults.specs.staged_pages.Store.{before_of}
use Rattle.no_faults.specs.fileset_table.Table.{IsTable}
use Rattle.no_faults.specs.fileset_table.declared.slot.SlotItem.{SlotItem}
use Rattle.no_faults.proofs.OfDomainStanding.Marked.{marked_space}
use Rattle.no_faults.specs.domain_standing.Space.{AreCellsOf, IsSpaceOf}
use Rattle.no_faults.specs.domain_layout.Faults.{HasNoFault}
use Rattle.no_faults.specs.domain_layout.Filled.{AreFilled}
use Rattle.no_faults.specs.domain_layout.Layout.{AreTagPlaces, IsLayout, Layout, first_tag_of}
use Rattle.no_faults.specs.domain_layout.Owners.{frame_of}
use Rattle.no_faults.specs.domain_layout.Read.{contents_of}
use Rattle.no_faults.specs.domain_layout.Shape.{AreShapesOf, Shapes}
use Rattle.no_faults.specs.domain_standing.Domain.{DomainNow, layout_of}
use Rattle.no_faults.specs.domain_standing.Sources.{StandAlone}
use Rattle.no_faults.specs.domain_standing.Standing.{AreBooksOf, HaveParents, IsMarkedBut, StandsDomain}
use Rattle.no_faults.proofs.Faultless.{faultless_sound}
use Rattle.no_faults.specs.domain_memory.Slots.{CanGoBack, book_in, kept_book, kept_places, places_in, slot_in}
use Rattle.no_faults.specs.domain_memory.declared.slots.SlotFiles.{SlotFiles}
use Rattle.no_faults.specs.domain_memory.Memory.{StandsFor, books_in, kept_in, with_was}
use Rattle.no_faults.specs.domain_memory.Staged.{IsSettled, MayGoBack}
use Rattle.no_faults.specs.domain_memory.declared.memory.DomainMemory.{DomainMemory}
use Rattle.no_faults.proofs.OfDomainMemory.KeptCells.{cells_of_other}
use Rattle.no_faults.specs.Attached.{IsReadFrom}
use Rattle.no_faults.proofs.Beside.{bits_are_right, parents_are_right, tables_stand}
use Rattle.no_faults.proofs.Stands.{stands}
use Rattle.attached_domain.specs.Read.{IsReadMemory, IsSettledSlot, MayBeAttached}
use Rattle.attached_domain.proofs.Layouts.{laid_with, list_with, sources_with, whole_with}

-- places that all were kept are those that are there
settled_places : (o : Option SlotFiles) → IfSome o IsSettledSlot → kept_places o ≡ places_in o
settled_places None is = refl
settled_places (Some slot) is = take_all slot.tag_pages slot.files.tags (omega (arith, is.pages))

settled_books : (o : Option SlotFiles) → IfSome o IsSettledSlot → kept_book o ≡ book_in o
settled_books None is = refl
settled_books (Some slot) is = is.book

-- the domain that the pages say
module _ (m : DomainMemory) (layout : Layout) (is : IsReadMemory m layout) (may : MayBeAttached (before_of m.pages) layout) where
  abbrev pages : Pages
  pages = before_of m.pages

  abbrev d : DomainNow
  d = record {
    frame = frame_of layout;
    table = layout.table;
    tags = layout.tags;
    pages = before_of m.pages;
    contents = contents_of (before_of m.pages);
    space = m.space;
    cells = m.cells;
    list = m.list.list;
  }

  kept_tags : (number : ℕ) → kept_places (slot_in m.slots.items number) ≡ layout.tags number
  kept_tags number = settled_places (slot_in m.slots.items number) (is.settled number) ∙ is.tags number

  same : d ≡ kept_in m
  same = λ i. record {
    frame = is.frame i;
    table = (is.table ∙ sym (ap (λ w. with_was w m.table) is.was)) i;
    tags = λ number. sym (kept_tags number) i;
    pages = before_of m.pages;
    contents = contents_of (before_of m.pages);
    space = sym is.kept_space i;
    cells = sym is.kept_cells i;
    list = m.list.list;
  }

  tables : (vol : ℕ) → IsMember layout.anchor vol → table_of m.cells vol ≡ layout.cells vol
  tables vol member = is.cells.tables vol member

  laid : IsLayout (before_of m.pages) (layout_of d)
  laid = laid_with (before_of m.pages) layout (table_of m.cells) tables may.whole.laid

  cells : AreCellsOf (before_of m.pages) (layout_of d) m.cells
  cells = cells_of_other (before_of m.pages) layout (layout_of d) refl tables m.cells m.cells is.cells (λ vol. refl) (λ vol. refl) (λ at. refl)

  space : IsSpaceOf (before_of m.pages) (layout_of d) m.space
  space = marked_space (before_of m.pages) (layout_of d) laid may.whole.no_fault may.few may.bitmaps m.space is.space

  read : IsReadFrom d
  read = record {
    tables = tables_stand d laid may.whole.no_fault may.log may.few may.within cells;
    no_fault = may.whole.no_fault;
    space = space;
    tags = is.none;
    sources = sources_with (before_of m.pages) layout (table_of m.cells) tables may.sources;
    stay = may.stay;
    quotas = may.quotas;
    list = list_with (before_of m.pages) layout (table_of m.cells) tables m.list.list is.list;
  }

  -- ---- what it stands for

  module _ (shapes : Shapes) (all : FilesetMap) (are : AreShapesOf (before_of m.pages) layout.table shapes) (filled : AreFilled (contents_of (before_of m.pages)) shapes all)
      (books : AreBooksOf (books_in m) (kept_in m) all) where
    d_stands : StandsDomain d all
    d_stands = stands d shapes all read (whole_with (before_of m.pages) layout (table_of m.cells) tables may.whole) are filled may.keep may.no_clone

    pub stands_for : StandsFor m all
    stands_for = record {
      stands = subst (λ e. StandsDomain e all) same d_stands;
      alone = subst StandAlone same read.sources;
      sound = faultless_sound (kept_in m) all (subst (λ e. StandsDomain e all) same d_stands) (subst (λ (e : DomainNow). HasNoFault e.pages e.frame) same may.whole.no_fault);
      parents = subst HaveParents same (parents_are_right d laid may.whole.no_fault);
      marked = subst IsMarkedBut same (bits_are_right d laid may.whole.no_fault may.few may.bitmaps is.space);
      books = books;
    }

  pub settled : IsSettled m
  settled = record {
    pages = is.pages;
    space = is.kept_space;
    cells = is.kept_cells;
    places = λ number. sym (settled_places (slot_in m.slots.items number) (is.settled number));
    books = λ number. sym (settled_books (slot_in m.slots.items number) (is.settled number));
    was = is.was;
    listed = is.listed;
  }

  -- ---- it can go back

  apart_by : (item : Option SlotItem) (number : ℕ) → slice_get layout.table.slots number ≡ item → (j k : ℕ) (p q : TagPlace)
      → slice_get (layout.tags number) j ≡ Some p → slice_get (layout.tags number) k ≡ Some q → p.index ≡ q.index → j ≡ k
  apart_by None number there j k p q at also same_index = nothing (sym (ap (λ (ps : List TagPlace). slice_get ps j) (is.none number there)) ∙ at)
    where
      nothing : {X : Type 0} → None ≡ Some p → X
      nothing e = absurd (cc)
  apart_by (Some item) number there j k p q at also same_index = by_first (first_tag_of item) (may.whole.laid.tags number item there)
    where
      by_first : (o : Option Home) → AreTagPlaces (before_of m.pages) o (layout.tags number) → j ≡ k
      by_first None none = nothing (sym (ap (λ (ps : List TagPlace). slice_get ps j) none) ∙ at)
        where
          nothing : {X : Type 0} → None ≡ Some p → X
          nothing e = absurd (cc)
      by_first (Some first) directory = directory.directory.apart j k p q at also same_index

  slot_back : (number : ℕ) (o : Option SlotFiles) → slot_in m.slots.items number ≡ o → IfSome o IsSettledSlot → IfSome o CanGoBack
  slot_back number None there is_settled = tt
  slot_back number (Some slot) there is_settled =
      let tags : slot.files.tags ≡ layout.tags number = ap places_in (sym there) ∙ is.tags number in
      record {
        few = omega (arith, is_settled.pages);
        once = subst (λ (ps : List TagPlace). (j k : ℕ) (p q : TagPlace) → slice_get ps j ≡ Some p → slice_get ps k ≡ Some q → p.index ≡ q.index → j ≡ k) (sym tags)
            (apart_by (slice_get layout.table.slots number) number refl);
      }

  pub goes_back : MayGoBack m
  goes_back = record {
    has = record { count = is.count; numbered = is.numbered };
    table = subst (λ w. IsTable (with_was w m.table)) (sym is.was) is.good;
    slots = λ number. slot_back number (slot_in m.slots.items number) refl (is.settled number);
  }
