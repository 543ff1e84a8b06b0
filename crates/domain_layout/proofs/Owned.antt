-- Where no rule of tables is broken: pages that agree on tables and indexes have the same layout, and
-- the same owners of pages.
use Rattle.std.proofs.Common.{◌≡◌, inl, inr, ℕ, zero, suc, List, [], ◌∷◌, Option, Some, None, Contains, IsSomeAnd, length, ◌<◌, refl, sym, subst, arith, ⊎_elim}
use Rattle.std.specs.Prelude.{slice_get, slice_index, slice_index_or}
use Rattle.file_release.specs.domain_base.declared.place.CellAt.{CellAt}
use Rattle.file_release.specs.domain_base.declared.place.Home.{Home}
use Rattle.file_release.specs.page_store.Pages.{Pages}
use Rattle.log_recovery.specs.log_ring.Homes.{IsMember, member_of}
use Rattle.file_release.specs.metadata_cells.Cell.{Cell}
use Rattle.log_recovery.specs.disk_label.FirstPages.{first_pages}
use Rattle.fileset_table.specs.Page.{IsTablePage}
use Rattle.fileset_table.specs.declared.slot.SlotItem.{SlotItem}
use Rattle.domain_layout.specs.Faults.{HasNoTablesFault}
use Rattle.domain_layout.specs.Layout.{AreTagPlaces, IsCellTable, IsLayout, IsPageAt, Layout, first_tag_of}
use Rattle.domain_layout.specs.Owners.{BelongsTo, HasExtent, HasIndexPage, IsOnTable, IsOwned, Owner, frame_of}
use Rattle.domain_layout.specs.Owners.Owner.{of_cells, of_file, of_index, of_log, of_table, of_tags, of_volume}
use Rattle.domain_layout.specs.PageRules.{IsExtentFault, IsWrongExtent}
use Rattle.domain_layout.specs.Reached.{index_way}
use Rattle.domain_layout.specs.Alike.{AgreeOnCells, AgreeOnTags}
use Rattle.domain_layout.specs.Metadata.{AgreeOnIndexes}
use Rattle.domain_layout.proofs.CellsAlike.{reaches, used_alike}
use Rattle.domain_layout.proofs.ChainsAlike.{directory_alike}
use Rattle.domain_layout.proofs.OnePage.{one_of}
use Rattle.domain_layout.proofs.OwnedOnce.{cell_place, used_on}

-- the pages have this layout, no rule of tables is broken, and the others agree with them there
pub record AreTables (one other : Pages) (layout : Layout) : Type 0 where
  pub laid : IsLayout one layout
  pub none : HasNoTablesFault one (frame_of layout)
  pub table : (home : Home) → layout.anchor.table ≡ Some home → one home ≡ other home
  pub cells : AgreeOnCells one other (frame_of layout)
  pub tags : AgreeOnTags one other (frame_of layout) layout.table

any_default : (xs : List ℕ) (k d : ℕ) → k < length xs → slice_index_or xs k d ≡ slice_index xs k
any_default [] k d within = absurd (omega (arith, within))
any_default (x ∷ xs) zero d within = refl
any_default (x ∷ xs) (suc k) d within = any_default xs k d (omega (arith, within))

at_place : (xs : List ℕ) (k : ℕ) → k < length xs → Contains xs (slice_index xs k)
at_place xs k within = (k, within, any_default xs k (slice_index xs k) within)

-- ---- the layout

module _ (one other : Pages) (layout : Layout) (are : AreTables one other layout) where
  -- the page at a place of a table of cells
  cells_page_alike : (vol : ℕ) → IsMember layout.anchor vol → (place : ℕ) → place < length (layout.cells vol)
      → one (record { vol = vol; page = slice_index (layout.cells vol) place }) ≡ other (record { vol = vol; page = slice_index (layout.cells vol) place })
  cells_page_alike vol member place within =
      let home : Home = record { vol = vol; page = slice_index (layout.cells vol) place } in
      let at = cell_place one layout are.laid are.none home member (at_place (layout.cells vol) place within) in
      are.cells vol member at.is.read.passed home at.is.read.reached at.is.read.may

  cell_table_alike : (vol : ℕ) → IsMember layout.anchor vol → IsCellTable other vol (first_pages layout.version (member_of layout.anchor vol).pages).cells (layout.cells vol)
  cell_table_alike vol member =
      let stands = are.laid.cells vol member in
      record {
        begins = stands.begins;
        some = stands.some;
        each = λ place within. subst (λ o. IsSomeAnd o (IsPageAt (layout.cells vol) place)) (cells_page_alike vol member place within) (stands.each place within);
      }

  tag_places_alike : (number : ℕ) (item : SlotItem) → slice_get layout.table.slots number ≡ Some item → (o : Option Home) → first_tag_of item ≡ o → AreTagPlaces one o (layout.tags number) → AreTagPlaces other o (layout.tags number)
  tag_places_alike number item there None none places = places
  tag_places_alike number item there (Some first) has places =
      directory_alike one other layout are.laid are.none are.cells are.tags number first (record { item = item; there = there; has = has }) (layout.tags number) places

  table_says : IsSomeAnd layout.anchor.table (λ home. IsSomeAnd (other home) (λ page. IsTablePage page layout.table))
  table_says =
      let said = one_of layout.anchor.table (λ home. IsSomeAnd (one home) (λ page. IsTablePage page layout.table)) are.laid.table in
      subst (λ o. IsSomeAnd o (λ home. IsSomeAnd (other home) (λ page. IsTablePage page layout.table))) (sym said.there)
      (subst (λ o. IsSomeAnd o (λ page. IsTablePage page layout.table)) (are.table said.value said.there) said.is)

  pub layout_alike : IsLayout other layout
  layout_alike = record {
    version = are.laid.version;
    table = table_says;
    cells = cell_table_alike;
    tags = λ number item there. tag_places_alike number item there (first_tag_of item) refl (are.laid.tags number item there);
  }

  -- ---- to whom pages belong

  on_table_alike : (at : CellAt) (cell : Cell) → IsOnTable one layout at cell → IsOnTable other layout at cell
  on_table_alike at cell on = record {
    member = on.member;
    table = on.table;
    stands = (used_alike one other (frame_of layout) are.cells at cell (used_on one layout are.laid are.none at cell on)).stands;
  }

  extent_alike : (at : CellAt) (page : ℕ) (home : Home) → HasExtent one layout at page home → HasExtent other layout at page home
  extent_alike at page home has = record { cell = has.cell; on = on_table_alike at has.cell has.on; value = has.value; among = has.among; place = has.place }

  index_page_alike : AgreeOnIndexes one other (frame_of layout) → (at : CellAt) (number : ℕ) (home : Home) → HasIndexPage one layout at number home → HasIndexPage other layout at number home
  index_page_alike indexes at number home has =
      let agree = indexes at has.first (record { cell = has.cell; is = used_on one layout are.laid are.none at has.cell has.on; value = has.value; there = has.there; begins = has.begins }) in
      record {
        cell = has.cell;
        on = on_table_alike at has.cell has.on;
        value = has.value;
        there = has.there;
        first = has.first;
        begins = has.begins;
        passed = has.passed;
        is = reaches one other (frame_of layout) (index_way has.first) agree has.passed home has.is;
        behind = has.behind;
      }

  belongs_alike : AgreeOnIndexes one other (frame_of layout) → (owner : Owner) (home : Home) → BelongsTo one layout owner home → BelongsTo other layout owner home
  belongs_alike indexes of_volume home is = is
  belongs_alike indexes of_log home is = is
  belongs_alike indexes of_table home is = is
  belongs_alike indexes of_cells home is = is
  belongs_alike indexes (of_tags number) home is = is
  belongs_alike indexes (of_index at number) home is = index_page_alike indexes at number home is
  belongs_alike indexes (of_file at page) home is = extent_alike at page home is

  pub owned_alike : AgreeOnIndexes one other (frame_of layout) → (home : Home) → IsOwned one layout home → IsOwned other layout home
  owned_alike indexes home (owner, is) = (owner, belongs_alike indexes owner home is)

  -- code 7
  wrong_extent_alike : AgreeOnIndexes one other (frame_of layout) → (at : CellAt) → IsWrongExtent one layout at → IsWrongExtent other layout at
  wrong_extent_alike indexes at w = record {
    page = w.page;
    home = w.home;
    has = extent_alike at w.page w.home w.has;
    wrong = ⊎_elim (λ may. inl may) (λ two. inr (two.0, belongs_alike indexes two.0 w.home two.1, two.2)) w.wrong;
  }

  pub extent_fault_alike : AgreeOnIndexes one other (frame_of layout) → (home : Home) → IsExtentFault one layout home → IsExtentFault other layout home
  extent_fault_alike indexes home (at, on, wrong) = (at, on, wrong_extent_alike indexes at wrong)
