-- The first cell of one file says something else, but not of pages.
use Rattle.std.proofs.Common.{IsSome, List, None, Option, Some, [], ℕ, ⊎_elim, ◌++◌, ◌∙◌, ◌∷◌, ◌≡◌, ◌⊎◌, ap, arith, inl, refl, subst, sym}
use Rattle.std.proofs.lemmas.Grind.{flat_map-append}
use Rattle.std.specs.Option.{option_and_then, option_map, option_map_or}
use Rattle.release_list.specs.domain_base.declared.place.CellAt.{CellAt}
use Rattle.release_list.specs.cell_records.declared.record.Record.{Record}
use Rattle.release_list.specs.cell_records.declared.record.Record.TheVariants as written
use Rattle.release_list.specs.metadata_cells.Cell.{Cell, record_of}
use Rattle.release_list.specs.metadata_cells.Chain.{PlacedCell, records_of}
use Rattle.release_list.specs.extent_maps.declared.run.PagePlace.TheVariants.{Absent}
use Rattle.release_list.specs.extent_maps.declared.run.Run.{Run}
use Rattle.release_list.specs.extent_maps.Runs.{place_of}
use Rattle.release_list.specs.extent_records.Rows.{runs_in, runs_of}
use Rattle.release_list.specs.file_chains.Files.{HasMap, map_records, places_of}
use Rattle.release_list.proofs.OfFileChains.MapRecords.{runs_by_map, value_has_rows}
use Rattle.release_list.specs.fileset_files.Changes.{with_first}
use Rattle.release_list.specs.Standing.{Files, IsQuotaCell, place_in, source_in, source_of, with_file}
use Rattle.release_list.specs.Steps.{Now, says_no_source, says_trimmed, without_source}
use Rattle.release_list.proofs.Records.{sourceless_maps, sourceless_other, sourceless_there, trimmed_attributes, trimmed_maps, trimmed_other}
use Rattle.release_list.proofs.Spread.{some_same}
use Rattle.release_list.proofs.Standings.{file_other, file_there, place_by, same_or_not}
use Rattle.release_steps.proofs.Fits.{Fits, HasMaps, HasOneMap}

-- what a change of a cell leaves of the record that says where pages stand
abbrev pub KeepsMap : (Cell → Cell) → Type 0
KeepsMap says = (cell : Cell) (value : Record) → HasMap cell value → IsSome (record_of 1 cell.records)
    → (map_records (says cell).records ≡ value ∷ []) × IsSome (record_of 1 (says cell).records)

pub trimmed_keeps : KeepsMap says_trimmed
trimmed_keeps cell value map some = (trimmed_maps cell value map.only (value_has_rows value map.is_map), trimmed_attributes cell some)

pub sourceless_keeps : KeepsMap says_no_source
sourceless_keeps cell value map some = (
  sourceless_maps cell value map.only (value_has_rows value map.is_map),
  subst IsSome (sym (sourceless_other cell 1 (λ e. omega (arith, e)))) some,
)

abbrev first_or : PlacedCell → List PlacedCell → PlacedCell
first_or d [] = d
first_or d (c ∷ cs) = c

module _ (says : Cell → Cell) (keeps : KeepsMap says) where
  map_now : (cell : Cell) → HasOneMap cell → HasOneMap (says cell)
  map_now cell has = record { value = has.value; map = record { only = (keeps cell has.value has.map has.attributes).0; is_map = has.map.is_map }; attributes = (keeps cell has.value has.map has.attributes).1 }

  maps_with : (cs : List PlacedCell) → ((first : PlacedCell) (rest : List PlacedCell) → cs ≡ first ∷ rest → HasOneMap first.cell) → (first : PlacedCell) (rest : List PlacedCell) → with_first says cs ≡ first ∷ rest → HasOneMap first.cell
  maps_with [] has first rest e = absurd (let it : [] ≡ first ∷ rest = e in absurd (cc))
  maps_with (c ∷ cs) has first rest e = subst (λ (x : PlacedCell). HasOneMap x.cell) (ap (first_or first) e) (map_now c.cell (has c cs refl))

  runs_now : (cell : Cell) → HasOneMap cell → runs_of (says cell).records ≡ runs_of cell.records
  runs_now cell has = runs_by_map (says cell).records ∙ ap runs_of ((keeps cell has.value has.map has.attributes).0 ∙ sym has.map.only) ∙ sym (runs_by_map cell.records)

  places_with : (cs : List PlacedCell) → ((first : PlacedCell) (rest : List PlacedCell) → cs ≡ first ∷ rest → HasOneMap first.cell) → (p : ℕ) → places_of (with_first says cs) p ≡ places_of cs p
  places_with [] has p = refl
  places_with (first ∷ rest) has p =
      ap (λ rs. place_of rs p)
      (flat_map-append runs_in (says first.cell).records (records_of rest)
      ∙ ap (λ (xs : List Run). xs ++ runs_of (records_of rest)) (runs_now first.cell (has first rest refl))
      ∙ sym (flat_map-append runs_in first.cell.records (records_of rest)))

  module _ (old new : Now) (fits : Fits old) (at : CellAt) (cs : List PlacedCell) (is : old.files at ≡ Some cs) (has : HasMaps cs) (files : new.files ≡ with_file at (Some (with_first says cs)) old.files) where
    pub first_there : new.files at ≡ Some (with_first says cs)
    first_there = ap (λ (f : Files). f at) files ∙ file_there at (Some (with_first says cs)) old.files

    pub first_other : (a : CellAt) → ¬ a ≡ at → new.files a ≡ old.files a
    first_other a not_at = ap (λ (f : Files). f a) files ∙ file_other at (Some (with_first says cs)) old.files a not_at

    pub first_places : (p : ℕ) → places_of (with_first says cs) p ≡ places_of cs p
    first_places p = places_with cs has p

    pub first_place : (a : CellAt) (p : ℕ) → place_in new.files a p ≡ place_in old.files a p
    first_place a p = ⊎_elim
        (λ same. place_by new.files a (with_first says cs) p (ap new.files same ∙ first_there) ∙ first_places p ∙ sym (place_by old.files a cs p (ap old.files same ∙ is)))
        (λ not_at. ap (λ o. option_map_or (λ cs. places_of cs p) o Absent) (first_other a not_at))
        (same_or_not a at)

    pub first_maps : (a : CellAt) (first : PlacedCell) (rest : List PlacedCell) → new.files a ≡ Some (first ∷ rest) → HasOneMap first.cell ⊎ IsQuotaCell first.cell
    first_maps a first rest is_now = ⊎_elim
        (λ same. inl (maps_with cs has first rest (some_same (with_first says cs) (first ∷ rest) (sym first_there ∙ sym (ap new.files same) ∙ is_now))))
        (λ not_at. fits.maps a first rest (sym (first_other a not_at) ∙ is_now))
        (same_or_not a at)

-- ---- through which file it reads

pub trimmed_source : (cs : List PlacedCell) → source_of (with_first says_trimmed cs) ≡ source_of cs
trimmed_source [] = refl
trimmed_source (first ∷ rest) = ap (option_and_then source_in) (trimmed_other first.cell 2 (λ e. omega (arith, e)) (λ e. omega (arith, e)))

no_source : (r : Record) → source_in (without_source r) ≡ None
no_source (written.Attributes kind uid gid flags size keep links birth unsynced) = refl
no_source (written.CloneFile vol cell page frozen) = refl
no_source (written.Extents rows) = refl
no_source (written.ShortExtents rows) = refl
no_source (written.Holes rows) = refl
no_source (written.Pending what) = refl
no_source (written.UserQuota id files blocks) = refl
no_source (written.GroupQuota id files blocks) = refl
no_source (written.DirIndex vol page entries) = refl
no_source (written.Parent slot seq) = refl
no_source (written.Stripe width mark vols) = refl
no_source (written.Volume vol pages bitmap_pages) = refl
no_source (written.DenseExtents rows) = refl
no_source (written.ShortDense rows) = refl

no_source_in : (o : Option Record) → option_and_then source_in (option_map without_source o) ≡ None
no_source_in None = refl
no_source_in (Some r) = no_source r

pub sourceless_source : (cs : List PlacedCell) → source_of (with_first says_no_source cs) ≡ None
sourceless_source [] = refl
sourceless_source (first ∷ rest) = ap (option_and_then source_in) (sourceless_there first.cell) ∙ no_source_in (record_of 2 first.cell.records)
