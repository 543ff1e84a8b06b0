-- The records of a cell whose record of extents is parted, and of the cell with its second part.
use Rattle.std.proofs.Common.{◌≡◌, ◌∙◌, ℕ, ◌≤◌, List, [], ◌∷◌, length, Some, Result, Ok, Err, OnOk, OnErr, sym, ap, subst, arith}
use Rattle.free_cells.specs.domain_base.declared.place.CellAt.{CellAt}
use Rattle.free_cells.specs.domain_base.declared.version.Version.{Version}
use Rattle.free_cells.specs.page_store.Pages.{Pages}
use Rattle.free_cells.specs.cell_records.declared.record.Record.{Record}
use Rattle.free_cells.specs.cell_records.Records.{kind_of}
use Rattle.free_cells.specs.metadata_cells.declared.head.CellKind.TheVariants.{Chain}
use Rattle.free_cells.specs.metadata_cells.Cell.{AreRecords, Cell, spellings}
use Rattle.free_cells.specs.metadata_cells.Chain.{StandsAt}
use Rattle.free_cells.proofs.OfMetadataCells.Unique.{one_stands}
use Rattle.extent_records.specs.extent_maps.declared.run.PagePlace.{PagePlace}
use Rattle.file_chains.specs.Changes.{with_kind}
use Rattle.file_chains.specs.Files.{map_records}
use Rattle.file_chains.specs.MapChanges.{HasMapIs}
use Rattle.file_chains.specs.Moving.{HaveParts, front_cell, tail_cell}
use Rattle.file_chains.proofs.OnePage.{one_fits}
use Rattle.file_chains.proofs.OneRecord.{replaced_fits}
use Rattle.file_chains.proofs.Replaced.{records_replaced}

module _ (pages : Pages) (at : CellAt) (value : Record) (page : ℕ) (place : PagePlace) (version : Version) (used : Cell) (seen front tail : List Record)
    (map : HasMapIs pages at value) (stands : StandsAt pages at used) (seen_is : seen ≡ used.records) (have : HaveParts value page place version seen front tail) where
  front_is : front ≡ with_kind (kind_of value) (Some have.front) used.records
  front_is = have.front_is ∙ ap (with_kind (kind_of value) (Some have.front)) seen_is

  only : map_records used.records ≡ value ∷ []
  only = subst (λ (c : Cell). map_records c.records ≡ value ∷ []) (one_stands pages at map.cell used map.stands stands) map.map.only

  pub front_good : AreRecords front
  front_good = subst AreRecords (sym front_is) (records_replaced (kind_of value) (Some have.front) used.records stands.is.well_formed have.parts.front_map.allowed have.parts.of_front)

  pub front_fits : length (spellings front) ≤ 272
  front_fits = omega (
    arith,
    ap (λ rs. length (spellings rs)) front_is,
    replaced_fits value have.front have.parts.front_map have.parts.of_front used.records only map.map.is_map.allowed,
    stands.is.head.fits,
  )

  pub tail_fits : length (spellings tail) ≤ 272
  tail_fits = one_fits version have.tail tail have.tail_is have.parts.tail_map.allowed have.parts.of_tail

  pub here : (new : Pages) (behind : CellAt) → StandsAt new at (record { head = record used.head { next = Some behind }; records = front }) → (cell : Cell) → StandsAt pages at cell
      → StandsAt new at (front_cell behind (kind_of value) have.front cell)
  here new behind stood cell was =
      subst (λ (c : Cell). StandsAt new at (front_cell behind (kind_of value) have.front c)) (one_stands pages at used cell stands was)
      (subst (λ (rs : List Record). StandsAt new at (record { head = record used.head { next = Some behind }; records = rs })) front_is stood)

  pub there : (new : Pages) (behind : CellAt) → StandsAt new behind (record { head = record used.head { kind = Chain }; records = tail }) → (cell : Cell) → StandsAt pages at cell
      → StandsAt new behind (tail_cell have.tail cell)
  there new behind stood cell was =
      subst (λ (c : Cell). StandsAt new behind (tail_cell have.tail c)) (one_stands pages at used cell stands was)
      (subst (λ (rs : List Record). StandsAt new behind (record { head = record used.head { kind = Chain }; records = rs })) have.tail_is stood)

-- what holds after a call, whether it was done or not
pub by_result : {A E P Q R : Type 0} (r : Result A E) → OnOk r P → OnErr r Q → (P → R) → (Q → R) → R
by_result (Ok x) p q f h = f p
by_result (Err e) p q f h = h q
