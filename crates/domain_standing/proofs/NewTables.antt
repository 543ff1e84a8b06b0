-- The tables of a domain that was just made: free slots, and one cell in use, which says the volume.
use Rattle.std.proofs.Common.{◌≡◌, ◌∙◌, ℕ, ◌≤◌, Some, slice_get, sym, ap, subst, arith}
use Rattle.std.specs.List.{AllByRecursion}
use Rattle.fileset_shapes.specs.domain_base.declared.place.CellAt.{CellAt}
use Rattle.fileset_shapes.specs.domain_base.declared.place.Home.{Home}
use Rattle.fileset_shapes.specs.page_store.Pages.{Pages}
use Rattle.fileset_shapes.specs.cell_records.Records.{kind_of, last_kind}
use Rattle.fileset_shapes.specs.metadata_cells.Cell.{Cell}
use Rattle.fileset_shapes.specs.metadata_cells.CellPage.{cell_of}
use Rattle.fileset_shapes.specs.metadata_cells.Chain.{StandsAt}
use Rattle.fileset_shapes.specs.fileset_table.Table.{IsNewTable}
use Rattle.fileset_shapes.specs.fileset_table.declared.slot.SlotItem.{SlotItem}
use Rattle.fileset_shapes.specs.fileset_table.declared.slot.SlotItem.TheVariants as slot
use Rattle.fileset_shapes.specs.domain_layout.CellRules.{IsFirstPlace, IsPlace, IsUsed, SaysVolume}
use Rattle.fileset_shapes.specs.domain_layout.Layout.{IsLayout, Layout}
use Rattle.fileset_shapes.specs.domain_layout.Owners.{HasExtent, HasIndexPage, IsOnTable, frame_of}
use Rattle.fileset_shapes.specs.domain_layout.Reached.{MayBe, first_cells}
use Rattle.fileset_shapes.specs.domain_layout.NewDomain.{IsNew, IsNewCells, firsts, on_first}
use Rattle.fileset_shapes.proofs.OfDomainLayout.NewCells.{kind_is, known, used_is}
use Rattle.fileset_shapes.proofs.OfDomainLayout.NewDomain.{cells, laid_table, no_reserved}
use Rattle.fileset_shapes.proofs.OfDomainLayout.NewPages.{no_extent, no_index}
use Rattle.fileset_shapes.proofs.OfDomainLayout.NewTags.{all_free}
use Rattle.fileset_shapes.proofs.OfDomainLayout.OnePage.{HasOne, at_first, cell_said, first_read, some_same}
use Rattle.fileset_shapes.proofs.OfDomainLayout.OneTable.{used_there}

-- the one cell in use, which says the volume
pub record VolumeCell (pages : Pages) (layout : Layout) : Type 0 where
  pub cell : Cell
  pub says : SaysVolume (frame_of layout) 1 cell
  pub known : AllByRecursion (λ r. kind_of r ≤ last_kind layout.version) cell.records
  pub stands : StandsAt pages (record { vol = 1; page = first_cells (frame_of layout) 1; cell = 0 }) cell
  pub alone : (at : CellAt) (other : Cell) → IsOnTable pages layout at other → other ≡ cell

module _ (pages : Pages) (layout : Layout) (new : IsNew pages (frame_of layout)) (laid : IsLayout pages layout) where
  first : HasOne (pages (on_first (firsts (frame_of layout)).cells)) (IsNewCells (frame_of layout))
  first = cells pages (frame_of layout) new

  fresh : IsNewTable layout.table
  fresh = laid_table pages layout new laid

  pub is_free : (number : ℕ) (item : SlotItem) → slice_get layout.table.slots number ≡ Some item → item ≡ slot.Free
  is_free = all_free layout.table fresh

  used : (at : CellAt) (cell : Cell) → IsOnTable pages layout at cell → IsUsed pages (frame_of layout) at cell
  used at cell on = used_there pages layout new.anchor first.value first.there first.is.good first.is.indexed first.is.last (laid.cells 1 new.anchor.member) at cell on

  pub no_extent_page : (at : CellAt) (number : ℕ) (home : Home) → ¬ HasExtent pages layout at number home
  no_extent_page at number home has = no_extent pages layout new.anchor first.value first.there first.is fresh laid at number home has

  pub no_index_page : (at : CellAt) (number : ℕ) (home : Home) → ¬ HasIndexPage pages layout at number home
  no_index_page at number home has = no_index pages layout new.anchor first.value first.there first.is fresh laid at has.cell has.value (used at has.cell has.on) has.there

  pub at_first_place : (at : CellAt) (cell : Cell) → IsOnTable pages layout at cell → IsFirstPlace (frame_of layout) at
  at_first_place at cell on =
      let there = used at cell on in
      let home = at_first pages (frame_of layout) new.anchor first.value first.there first.is.good first.is.indexed first.is.last at there.place in
      let vol : at.vol ≡ 1 = ap (λ (h : Home). h.vol) home in (
        ap (λ (h : Home). h.page) home ∙ ap (first_cells (frame_of layout)) (sym vol),
        (kind_is pages (frame_of layout) new.anchor first.value first.there first.is at there.stands.bytes cell.head.kind there.place there.stands.there there.stands.is.head.kind).first,
      )

  pub table_may_be : (home : Home) → layout.anchor.table ≡ Some home → MayBe (frame_of layout) home
  table_may_be home at =
      let same : on_first (firsts (frame_of layout)).table ≡ home = some_same (on_first (firsts (frame_of layout)).table) home (sym new.anchor.table ∙ at) in
      subst (MayBe (frame_of layout)) same ((new.anchor.member, new.anchor.room), no_reserved pages (frame_of layout) new)

  volume_cell_on : HasOne (pages (on_first (firsts (frame_of layout)).cells)) (IsNewCells (frame_of layout)) → VolumeCell pages layout
  volume_cell_on one =
      let at : CellAt = record { vol = 1; page = first_cells (frame_of layout) 1; cell = 0 } in
      let place : IsPlace pages (frame_of layout) at = record {
        place = 0;
        page = one.value;
        is = first_read pages (frame_of layout) new.anchor one.value one.there one.is.good one.is.indexed one.is.last;
        within = omega arith;
      } in
      record {
        cell = one.is.cell;
        says = one.is.says;
        known = known pages (frame_of layout) new.anchor one.value one.there one.is;
        stands = record {
          bytes = cell_of one.value 0;
          there = cell_said pages (frame_of layout) new.anchor one.value one.there one.is.good one.is.indexed one.is.last at place;
          is = one.is.first;
        };
        alone = λ where_at cell on. used_is pages (frame_of layout) new.anchor one.value one.there one.is where_at cell (used where_at cell on);
      }

  pub volume_cell : VolumeCell pages layout
  volume_cell = volume_cell_on first
