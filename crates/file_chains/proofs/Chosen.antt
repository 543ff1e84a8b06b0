-- The record that is chosen for a page stands in a cell of the chain.
use Rattle.std.proofs.Common.{◌≡◌, ◌∙◌, ℕ, zero, suc, ◌<◌, ◌≤◌, List, [], ◌∷◌, get_or, length, Some, Result, Ok, Err, OnOk, Contains, refl, sym, ap, subst, arith, ⊎_elim}
use Rattle.std.specs.List.{AllByRecursion}
use Rattle.free_cells.specs.domain_base.declared.place.CellAt.{CellAt}
use Rattle.free_cells.specs.page_store.Pages.{Pages}
use Rattle.free_cells.specs.cell_records.declared.record.Record.{Record}
use Rattle.free_cells.specs.cell_records.Records.{kind_of}
use Rattle.free_cells.specs.metadata_cells.Cell.{Cell, spellings}
use Rattle.free_cells.specs.metadata_cells.Chain.{PlacedCell, StandsAt, places, records_of}
use Rattle.extent_records.specs.extent_maps.declared.run.PagePlace.{PagePlace}
use Rattle.extent_records.specs.extent_maps.declared.run.PagePlace.TheVariants.{Absent}
use Rattle.extent_records.specs.extent_maps.Runs.{place_of, with_place}
use Rattle.extent_records.specs.Chains.{IsChoice, Takes}
use Rattle.extent_records.specs.Writing.{IsMapRecord, places_in}
use Rattle.extent_records.proofs.ChainLemmas.{shows_record}
use Rattle.file_chains.specs.Changes.{HasRoom, with_kind, with_record}
use Rattle.file_chains.specs.Files.{IsFile, map_records, places_of}
use Rattle.file_chains.specs.MapChanges.{ChangesMap, HasMapIs}
use Rattle.file_chains.proofs.ChainChanges.{Picks, picks, stand_file}
use Rattle.file_chains.proofs.Gathers.{mapped_all, one_map_file, values, values_are}
use Rattle.file_chains.proofs.MapRecords.{runs_by_map}
use Rattle.file_chains.proofs.OneRecord.{replaced_fits}
use Rattle.file_chains.proofs.Walks.{Mapped}

-- ---- one cell

pub has_room : (pages : Pages) (at : CellAt) (value after : Record) → HasMapIs pages at value → IsMapRecord after → kind_of after ≡ kind_of value → HasRoom pages at (kind_of after) (Some after)
has_room pages at value after has is_map same = record {
  cell = has.cell;
  stands = has.stands;
  fits = subst (λ (k : ℕ). length (spellings (with_kind k (Some after) has.cell.records)) ≤ 272) (sym same)
      (omega (arith, replaced_fits value after is_map same has.cell.records has.map.only has.map.is_map.allowed, has.stands.is.head.fits));
}

pub changed_ok : {T E : Type 0} (r : Result T E) (old new : Pages) (at : CellAt) (value after : Record) (page : ℕ) (place : PagePlace) → IsMapRecord after → kind_of after ≡ kind_of value → ((p : ℕ) → places_in after p ≡ with_place page place (places_in value) p)
    → ((cell : Cell) → StandsAt old at cell → OnOk r (StandsAt new at (with_record (kind_of after) (Some after) cell))) → OnOk r (ChangesMap at value page place old new)
changed_ok (Ok x) old new at value after page place is_map same at_page stands = record {
  after = after;
  is_map = is_map;
  same_kind = same;
  at_page = at_page;
  cell = λ cell was. subst (λ (k : ℕ). StandsAt new at (with_record k (Some after) cell)) same (stands cell was);
}
changed_ok (Err e) old new at value after page place is_map same at_page stands = tt

-- ---- the cell of the chain

pub choice_within : (page i : ℕ) (place : PagePlace) (records : List Record) → IsChoice page place records (Some i) → i < length records
choice_within page i place records choice = ⊎_elim (λ joined. joined.within) (λ free. free.1.within) choice

pub choice_takes : (page i : ℕ) (place : PagePlace) (records : List Record) (value : Record) → IsChoice page place records (Some i) → get_or records i value ≡ value → Takes page place value
choice_takes page i place records value choice is = ⊎_elim (λ joined. subst (Takes page place) is (joined.is value).0) (λ free. subst (Takes page place) is (free.1.is value)) choice

same_long : (cs : List PlacedCell) (all : AllByRecursion Mapped cs) → length (values cs all) ≡ length (places cs)
same_long [] all = refl
same_long (c ∷ cs) all = ap suc (same_long cs all.1)

-- as many records as addresses
pub lists_long : (pages : Pages) (start : CellAt) (chain : List PlacedCell) → IsFile pages start chain → length (map_records (records_of chain)) ≡ length (places chain)
lists_long pages start chain is = let all = mapped_all pages start chain is in ap length (values_are chain all) ∙ same_long chain all

pub picked : (pages : Pages) (start : CellAt) (chain : List PlacedCell) (is : IsFile pages start chain) (i : ℕ) (at : CellAt) (value : Record) (seen : List CellAt) (records : List Record) → seen ≡ places chain → records ≡ map_records (records_of chain)
    → i < length records → get_or seen i at ≡ at → get_or records i value ≡ value → Picks pages i at value chain
picked pages start chain is i at value seen records seen_is records_are within place there =
    let all = mapped_all pages start chain is in
    let listed = records_are ∙ values_are chain all in
    picks pages i at value chain (stand_file pages start chain is) all (subst (λ (rs : List Record). i < length rs) listed within)
    (subst (λ (ps : List CellAt). get_or ps i at ≡ at) seen_is place) (subst (λ (rs : List Record). get_or rs i value ≡ value) listed there)

-- the record of a chain without the page does not have it
pub absent_value : (pages : Pages) (start : CellAt) (chain : List PlacedCell) (is : IsFile pages start chain) (i : ℕ) (at : CellAt) (value : Record) (page : ℕ) → Picks pages i at value chain → places_of chain page ≡ Absent → places_in value page ≡ Absent
absent_value pages start chain is i at value page p absent =
    ⊎_elim (λ none. none) (λ same. sym same ∙ ap (λ rs. place_of rs page) (sym (runs_by_map (records_of chain))) ∙ absent)
    (shows_record (map_records (records_of chain)) i value page p.within p.there (one_map_file pages start chain is))

pub all_at : (P : CellAt → Type 0) (cs : List PlacedCell) (at : CellAt) → AllByRecursion (λ (c : PlacedCell). P c.at) cs → Contains (places cs) at → P at
all_at P [] at all (k, within, is) = absurd (omega (arith, within))
all_at P (c ∷ cs) at all (zero, within, is) = subst P is all.0
all_at P (c ∷ cs) at all (suc k, within, is) = all_at P cs at all.1 (k, omega (arith, within), is)
