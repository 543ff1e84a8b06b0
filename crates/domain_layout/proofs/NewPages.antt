-- The pages of a domain that was just made: which of them are owned, and that no rule of extents, bitmaps and indexes is broken.
use Rattle.std.proofs.Common.{inl, inr, ◌≡◌, ◌∙◌, ◌⊎◌, ℕ, ◌+◌, ◌*◌, ◌<◌, ◌≤◌, true, false, List, [], ◌∷◌, Some, None, IsSomeAnd, Contains, sym, ap, subst, arith, ⊎_elim}
use Rattle.std.proofs.lemmas.Bool.{cases_lt, cases_order}
use Rattle.file_release.specs.domain_base.declared.place.CellAt.{CellAt}
use Rattle.file_release.specs.domain_base.declared.place.Home.{Home}
use Rattle.file_release.specs.page_store.Pages.{Pages}
use Rattle.file_release.specs.domain_base.Version.{bitmap_pages}
use Rattle.log_recovery.specs.disk_label.FirstPages.{first_pages}
use Rattle.file_release.specs.tag_dirs.Directory.{has_home}
use Rattle.file_release.specs.free_space.Bits.{is_set}
use Rattle.file_release.specs.cell_records.declared.record.Record.{Record}
use Rattle.log_recovery.specs.log_ring.Homes.{member_of}
use Rattle.file_release.specs.metadata_cells.Cell.{Cell, record_of}
use Rattle.file_release.specs.extent_maps.declared.run.PagePlace.TheVariants.{Absent, At}
use Rattle.file_release.specs.extent_records.Writing.{places_in}
use Rattle.fileset_table.specs.Table.{IsNewTable}
use Rattle.domain_layout.specs.CellRules.{IsUsed}
use Rattle.domain_layout.specs.DirectoryRules.{IsIndexFault}
use Rattle.domain_layout.specs.Layout.{AreTagPlaces, IsLayout, Layout, first_tag_of}
use Rattle.domain_layout.specs.Owners.{BelongsTo, HasExtent, HasTagPage, IsOwned, Owner, frame_of}
use Rattle.domain_layout.specs.Owners.Owner.{of_cells, of_file, of_index, of_log, of_table, of_tags, of_volume}
use Rattle.domain_layout.specs.PageRules.{IsBitmapFault, IsExtentFault}
use Rattle.domain_layout.specs.NewDomain.{IsNewAnchor, IsNewBitmap, IsNewCells, firsts, on_first, size_of}
use Rattle.domain_layout.proofs.NewCells.{used_is}
use Rattle.domain_layout.proofs.OnePage.{some_same}
use Rattle.domain_layout.proofs.OneTable.{cells_are, one_in, used_there}
use Rattle.domain_layout.proofs.NewTags.{all_free, has_none}

first_in : {X : Type 0} (x a : X) → a ≡ x → Contains (x ∷ []) a
first_in x a same = (0, omega arith, sym same)

module _ (pages : Pages) (layout : Layout) (anchor : IsNewAnchor (frame_of layout)) (page : List ℕ) (there : pages (on_first (firsts (frame_of layout)).cells) ≡ Some page) (is : IsNewCells (frame_of layout) page) (fresh : IsNewTable layout.table) (laid : IsLayout pages layout) where
  no_tag_pages : (number : ℕ) (home : Home) → ¬ HasTagPage layout number home
  no_tag_pages number home has =
      let none : layout.tags number ≡ [] = subst (λ i. AreTagPlaces pages (first_tag_of i) (layout.tags number)) (all_free layout.table fresh number has.item has.there) (laid.tags number has.item has.there) in
      let e : false ≡ true = sym (ap (λ places. has_home places home) none) ∙ has.has in
      absurd (cc)

  cell_is : (at : CellAt) (cell : Cell) → IsUsed pages (frame_of layout) at cell → cell ≡ is.cell
  cell_is at cell used = used_is pages (frame_of layout) anchor page there is at cell used

  pub no_extent : (at : CellAt) (number : ℕ) (home : Home) → ¬ HasExtent pages layout at number home
  no_extent at number home has =
      let records = ap (λ (c : Cell). c.records) (cell_is at has.cell (used_there pages layout anchor page there is.good is.indexed is.last (laid.cells 1 anchor.member) at has.cell has.on)) ∙ is.says.says in
      let value = one_in _ has.value (subst (λ rs. Contains rs has.value) records has.among) in
      let e : Absent ≡ At home = sym (ap (λ r. places_in r number) value) ∙ has.place in
      absurd (cc)

  pub no_index : (at : CellAt) (cell : Cell) (value : Record) → IsUsed pages (frame_of layout) at cell → ¬ record_of 9 cell.records ≡ Some value
  no_index at cell value used has =
      let records = ap (λ (c : Cell). c.records) (cell_is at cell used) ∙ is.says.says in
      let e : None ≡ Some value = sym (ap (record_of 9) records) ∙ has in
      absurd (cc)

  -- ---- which pages are owned

  owned_below : (home : Home) (owner : Owner) → BelongsTo pages layout owner home → home.page ≤ (firsts (frame_of layout)).table
  owned_below home of_volume (member, less) =
      let below : home.page < (firsts (frame_of layout)).cells =
      subst (λ vol. home.page < (first_pages layout.version (member_of layout.anchor vol).pages).cells) (anchor.alone home.vol member) less in
      omega (arith, below)
  owned_below home of_log log = omega (arith, log.2, anchor.log)
  owned_below home of_table table =
      let same : home ≡ on_first (firsts (frame_of layout)).table = some_same home (on_first (firsts (frame_of layout)).table) (sym table ∙ anchor.table) in
      let number : home.page ≡ (firsts (frame_of layout)).table = ap (λ (h : Home). h.page) same in
      omega (arith, number)
  owned_below home of_cells (member, among) =
      let table = ap layout.cells (anchor.alone home.vol member) ∙ (cells_are pages layout anchor page there is.good is.indexed is.last (laid.cells 1 anchor.member)) in
      let number : home.page ≡ (firsts (frame_of layout)).cells = one_in (firsts (frame_of layout)).cells home.page (subst (λ t. Contains t home.page) table among) in
      omega (arith, number)
  owned_below home (of_tags number) has = absurd (no_tag_pages number home has)
  owned_below home (of_index at number) has = absurd (no_index at has.cell has.value (used_there pages layout anchor page there is.good is.indexed is.last (laid.cells 1 anchor.member) at has.cell has.on) has.there)
  owned_below home (of_file at number) has = absurd (no_extent at number home has)

  of_cells_page : (number : ℕ) → number ≡ (firsts (frame_of layout)).cells → BelongsTo pages layout of_cells (on_first number)
  of_cells_page number same = (anchor.member, subst (λ t. Contains t number) (sym (cells_are pages layout anchor page there is.good is.indexed is.last (laid.cells 1 anchor.member))) (first_in (firsts (frame_of layout)).cells number same))

  of_log_page : (number : ℕ) → (firsts (frame_of layout)).cells < number → number < (firsts (frame_of layout)).table → BelongsTo pages layout of_log (on_first number)
  of_log_page number above below = (sym anchor.log_volume, omega (arith, anchor.log, above), omega (arith, anchor.log, below))

  of_table_page : (number : ℕ) → number ≡ (firsts (frame_of layout)).table → BelongsTo pages layout of_table (on_first number)
  of_table_page number same = anchor.table ∙ ap (λ p. Some (on_first p)) (sym same)

  below_owned : (number : ℕ) → number ≤ (firsts (frame_of layout)).table → IsOwned pages layout (on_first number)
  below_owned number small =
      ⊎_elim (λ same. (of_cells, of_cells_page number same))
      (λ other. ⊎_elim (λ less. (of_volume, (anchor.member, less)))
      (λ more. ⊎_elim (λ less. (of_log, of_log_page number more less))
      (λ end. (of_table, of_table_page number (omega (arith, small, end)))) (cases_lt number (firsts (frame_of layout)).table)) other)
      (cases_order number (firsts (frame_of layout)).cells)

  -- ---- the rules of pages

  pub no_extent_fault : (home : Home) → ¬ IsExtentFault pages layout home
  no_extent_fault home fault = no_extent fault.0 fault.2.page fault.2.home fault.2.has

  pub no_index_fault : (home : Home) → ¬ IsIndexFault pages (frame_of layout) layout.table home
  no_index_fault home fault =
      ⊎_elim (λ w. no_index w.at w.has.cell w.has.value w.has.is w.has.there)
      (λ w. has_none layout.table fresh pages w.number w.dir w.has.cells w.seen w.has.has) fault

  module _ (bitmap : (number : ℕ) → number < bitmap_pages layout.version (size_of (frame_of layout))
      → IsSomeAnd (pages (on_first ((firsts (frame_of layout)).bitmap + number))) (IsNewBitmap (frame_of layout) number)) where
    bits_of : (number : ℕ) (bytes : List ℕ) → number < bitmap_pages layout.version (size_of (frame_of layout)) → pages (on_first (2 + number)) ≡ Some bytes
        → IsNewBitmap (frame_of layout) number bytes
    bits_of number bytes within said = subst (λ o. IsSomeAnd o (IsNewBitmap (frame_of layout) number)) said (bitmap number within)

    pub no_bitmap_fault : (home : Home) → ¬ IsBitmapFault pages layout home
    no_bitmap_fault home fault = fault.wrong (to, from)
      where
        vol : home.vol ≡ 1
        vol = anchor.alone home.vol fault.member

        size_is : (member_of layout.anchor home.vol).pages ≡ size_of (frame_of layout)
        size_is = ap (λ v. (member_of layout.anchor v).pages) vol

        number : ℕ
        number = fault.number

        at : home ≡ on_first (2 + fault.number)
        at = λ i. record { vol = vol i; page = fault.at i }

        within : fault.number < bitmap_pages layout.version (size_of (frame_of layout))
        within = subst (λ n. fault.number < bitmap_pages layout.version n) size_is fault.within

        bits : IsNewBitmap (frame_of layout) fault.number fault.bytes
        bits = bits_of fault.number fault.bytes within (sym (ap pages at) ∙ fault.there)

        page_at : ℕ → Home
        page_at v = record { vol = v; page = 65536 * fault.number + fault.bit }

        past : ℕ → Type 0
        past n = n ≤ 65536 * fault.number + fault.bit

        to : is_set fault.bytes fault.bit ≡ true → IsOwned pages layout (page_at home.vol) ⊎ past (member_of layout.anchor home.vol).pages
        to set =
            ⊎_elim (λ low. inl (subst (λ v. IsOwned pages layout (page_at v)) (sym vol) (below_owned (65536 * fault.number + fault.bit) low)))
            (λ high. inr (subst past (sym size_is) high)) ((bits.bits fault.bit fault.some).0 set)

        from : IsOwned pages layout (page_at home.vol) ⊎ past (member_of layout.anchor home.vol).pages → is_set fault.bytes fault.bit ≡ true
        from either =
            (bits.bits fault.bit fault.some).1
            (⊎_elim (λ owned. inl (owned_below (page_at home.vol) owned.0 owned.1)) (λ high. inr (subst past size_is high)) either)
