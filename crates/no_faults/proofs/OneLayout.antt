-- The pages of a domain whose tables stand have one layout, where owners of pages look at it.
use Rattle.std.proofs.Common.{◌≡◌, ◌∙◌, inl, inr, ℕ, ◌+◌, ◌*◌, List, Option, Some, None, IsSomeAnd, Contains, slice_get, sym, ap, subst, ⊎_elim}
use Rattle.domain_memory.specs.domain_base.declared.place.Home.{Home}
use Rattle.domain_memory.specs.domain_base.declared.place.CellAt.{CellAt}
use Rattle.domain_memory.specs.log_ring.Homes.{IsMember}
use Rattle.domain_memory.specs.metadata_cells.Cell.{Cell}
use Rattle.domain_memory.specs.tag_dirs.Directory.{has_home}
use Rattle.domain_memory.specs.tag_dirs.declared.dir.TagPlace.{TagPlace}
use Rattle.domain_memory.proofs.OfTagDirs.Reading.{same_directory}
use Rattle.domain_memory.specs.free_cells.Cells.{table_of}
use Rattle.domain_memory.specs.fileset_table.Page.{IsTablePage}
use Rattle.domain_memory.specs.fileset_table.Table.{Table}
use Rattle.domain_memory.specs.fileset_table.declared.slot.SlotItem.{SlotItem}
use Rattle.domain_memory.specs.domain_layout.Faults.{SaysTable}
use Rattle.domain_memory.specs.domain_layout.Layout.{AreTagPlaces, IsLayout, Layout, first_tag_of}
use Rattle.domain_memory.specs.domain_layout.Owners.{BelongsTo, HasExtent, IsOnTable, IsOwned, Owner, frame_of}
use Rattle.domain_memory.specs.domain_layout.PageRules.{IsBitmapFault, IsExtentFault}
use Rattle.domain_memory.specs.domain_layout.Reached.{Frame}
use Rattle.domain_memory.proofs.OfDomainLayout.OnePage.{HasOne, one_of}
use Rattle.domain_memory.proofs.OneTable.{one_table}
use Rattle.domain_memory.specs.domain_standing.Domain.{DomainNow, layout_of}
use Rattle.domain_memory.specs.domain_standing.Tables.{StandTables}
use Rattle.no_faults.proofs.NoTable.{table_is}

-- a layout with the domain's anchor
abbrev laid_so : DomainNow → Table → (ℕ → List ℕ) → (ℕ → List TagPlace) → Layout
laid_so d table cells tags = record { anchor = d.frame.anchor; version = d.frame.version; table = table; cells = cells; tags = tags }

module _ (d : DomainNow) (cells cells_now : ℕ → List ℕ) (tags tags_now : ℕ → List TagPlace)
    (same_cells : (vol : ℕ) → IsMember d.frame.anchor vol → cells vol ≡ cells_now vol) (same_tags : (number : ℕ) (item : SlotItem) → slice_get d.table.slots number ≡ Some item → tags number ≡ tags_now number) where
  on_table_so : (at : CellAt) (cell : Cell) → IsOnTable d.pages (laid_so d d.table cells tags) at cell → IsOnTable d.pages (laid_so d d.table cells_now tags_now) at cell
  on_table_so at cell on = record { member = on.member; table = subst (λ t. Contains t at.page) (same_cells at.vol on.member) on.table; stands = on.stands }

  extent_so : (at : CellAt) (page : ℕ) (home : Home) → HasExtent d.pages (laid_so d d.table cells tags) at page home → HasExtent d.pages (laid_so d d.table cells_now tags_now) at page home
  extent_so at page home has = record { cell = has.cell; on = on_table_so at has.cell has.on; value = has.value; among = has.among; place = has.place }

  belongs_so : (owner : Owner) (home : Home) → BelongsTo d.pages (laid_so d d.table cells tags) owner home → BelongsTo d.pages (laid_so d d.table cells_now tags_now) owner home
  belongs_so Owner.of_volume home is = is
  belongs_so Owner.of_log home is = is
  belongs_so Owner.of_table home is = is
  belongs_so Owner.of_cells home is = (is.0, subst (λ t. Contains t home.page) (same_cells home.vol is.0) is.1)
  belongs_so (Owner.of_tags number) home is = record { item = is.item; there = is.there; has = ap (λ ps. has_home ps home) (sym (same_tags number is.item is.there)) ∙ is.has }
  belongs_so (Owner.of_index at number) home is = record {
    cell = is.cell;
    on = on_table_so at is.cell is.on;
    value = is.value;
    there = is.there;
    first = is.first;
    begins = is.begins;
    passed = is.passed;
    is = is.is;
    behind = is.behind;
  }
  belongs_so (Owner.of_file at page) home is = extent_so at page home is

  owned_so : (home : Home) → IsOwned d.pages (laid_so d d.table cells tags) home → IsOwned d.pages (laid_so d d.table cells_now tags_now) home
  owned_so home owned = (owned.0, belongs_so owned.0 home owned.1)

module _ (d : DomainNow) (stands : StandTables d) where
  module _ (cells : ℕ → List ℕ) (tags : ℕ → List TagPlace) (laid : IsLayout d.pages (laid_so d d.table cells tags)) where
    cells_are : (vol : ℕ) → IsMember d.frame.anchor vol → cells vol ≡ table_of d.cells vol
    cells_are vol member = one_table d.pages vol _ (cells vol) (table_of d.cells vol) (laid.cells vol member) (stands.laid.cells vol member)

    tags_are : (number : ℕ) (item : SlotItem) → slice_get d.table.slots number ≡ Some item → tags number ≡ d.tags number
    tags_are number item there = by_first (first_tag_of item) (laid.tags number item there) (stands.laid.tags number item there)
      where
        by_first : (o : Option Home) → AreTagPlaces d.pages o (tags number) → AreTagPlaces d.pages o (d.tags number) → tags number ≡ d.tags number
        by_first None one other = one ∙ sym other
        by_first (Some first) one other = same_directory d.pages first (tags number) (d.tags number) one other

    extent_laid : (home : Home) → IsExtentFault d.pages (laid_so d d.table cells tags) home → IsExtentFault d.pages (layout_of d) home
    extent_laid home (at, on, w) = (
      at,
      on,
      record {
        page = w.page;
        home = w.home;
        has = extent_so d cells (table_of d.cells) tags d.tags cells_are tags_are at w.page w.home w.has;
        wrong = ⊎_elim (λ out. inl out) (λ two. inr (two.0, belongs_so d cells (table_of d.cells) tags d.tags cells_are tags_are two.0 w.home two.1, two.2)) w.wrong;
      },
    )

    bitmap_laid : (home : Home) → IsBitmapFault d.pages (laid_so d d.table cells tags) home → IsBitmapFault d.pages (layout_of d) home
    bitmap_laid home w = record {
      member = w.member;
      number = w.number;
      within = w.within;
      at = w.at;
      bytes = w.bytes;
      there = w.there;
      bit = w.bit;
      some = w.some;
      wrong = λ both. w.wrong (
        (λ set. ⊎_elim (λ owned. inl (owned_so d (table_of d.cells) cells d.tags tags (λ vol member. sym (cells_are vol member)) (λ number item there. sym (tags_are number item there)) (record { vol = home.vol; page = 65536 * w.number + w.bit }) owned)) (λ past. inr past) (both.0 set)),
        (λ either. both.1 (⊎_elim (λ owned. inl (owned_so d cells (table_of d.cells) tags d.tags cells_are tags_are (record { vol = home.vol; page = 65536 * w.number + w.bit }) owned)) (λ past. inr past) either)),
      );
    }

    owned_laid : (home : Home) → IsOwned d.pages (layout_of d) home → IsOwned d.pages (laid_so d d.table cells tags) home
    owned_laid = owned_so d (table_of d.cells) cells d.tags tags (λ vol member. sym (cells_are vol member)) (λ number item there. sym (tags_are number item there))

  says : (layout : Layout) → frame_of layout ≡ d.frame → IsLayout d.pages layout → SaysTable d.pages d.frame layout.table
  says layout same laid =
      let one : HasOne layout.anchor.table (λ home. IsSomeAnd (d.pages home) (λ page. IsTablePage page layout.table)) = one_of layout.anchor.table (λ home. IsSomeAnd (d.pages home) (λ page. IsTablePage page layout.table)) laid.table in
      record { home = one.value; at = ap (λ (f : Frame). f.anchor.table) (sym same) ∙ one.there; there = one.is }

  -- what is so of each layout with the domain's anchor and table is so of each of its pages
  by_layout : (P : Layout → Type 0) → ((cells : ℕ → List ℕ) (tags : ℕ → List TagPlace) → IsLayout d.pages (laid_so d d.table cells tags) → P (laid_so d d.table cells tags))
      → (layout : Layout) → frame_of layout ≡ d.frame → IsLayout d.pages layout → P layout
  by_layout P each layout same laid =
      let table = table_is d stands layout.table (says layout same laid) in
      let is : layout ≡ laid_so d d.table layout.cells layout.tags =
      (λ i. record { anchor = (same i).anchor; version = (same i).version; table = table i; cells = layout.cells; tags = layout.tags }) in
      subst P (sym is) (each layout.cells layout.tags (subst (IsLayout d.pages) is laid))

  pub extent_here : (layout : Layout) → frame_of layout ≡ d.frame → IsLayout d.pages layout → (home : Home) → IsExtentFault d.pages layout home → IsExtentFault d.pages (layout_of d) home
  extent_here = by_layout (λ layout. (home : Home) → IsExtentFault d.pages layout home → IsExtentFault d.pages (layout_of d) home) extent_laid

  pub bitmap_here : (layout : Layout) → frame_of layout ≡ d.frame → IsLayout d.pages layout → (home : Home) → IsBitmapFault d.pages layout home → IsBitmapFault d.pages (layout_of d) home
  bitmap_here = by_layout (λ layout. (home : Home) → IsBitmapFault d.pages layout home → IsBitmapFault d.pages (layout_of d) home) bitmap_laid

  pub owned_here : (layout : Layout) → frame_of layout ≡ d.frame → IsLayout d.pages layout → (home : Home) → IsOwned d.pages (layout_of d) home → IsOwned d.pages layout home
  owned_here = by_layout (λ layout. (home : Home) → IsOwned d.pages (layout_of d) home → IsOwned d.pages layout home) owned_laid

  pub table_here : (layout : Layout) → frame_of layout ≡ d.frame → IsLayout d.pages layout → layout.table ≡ d.table
  table_here layout same laid = table_is d stands layout.table (says layout same laid)
