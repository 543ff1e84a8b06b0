-- The record of a chain that has a page.
use Rattle.std.proofs.Common.{◌≡◌, ◌∙◌, ℕ, ◌<◌, List, [], ◌∷◌, get_or, length, Some, IsSome, Result, Ok, Err, IfOk, Contains, refl, sym, ap, subst, ⊎_elim}
use Rattle.std.specs.List.{AllByRecursion}
use Rattle.std.proofs.lemmas.Bool.{true≢false}
use Rattle.free_cells.specs.domain_base.declared.place.CellAt.{CellAt}
use Rattle.free_cells.specs.domain_base.declared.place.Home.{Home}
use Rattle.free_cells.specs.page_store.Pages.{Pages}
use Rattle.free_cells.specs.cell_records.declared.record.Record.{Record}
use Rattle.free_cells.specs.metadata_cells.Chain.{PlacedCell, records_of}
use Rattle.extent_records.specs.extent_maps.declared.run.PagePlace.{PagePlace}
use Rattle.extent_records.specs.extent_maps.declared.run.PagePlace.TheVariants.{Absent, At, Hole}
use Rattle.extent_records.specs.extent_maps.Runs.{home_at, place_of}
use Rattle.extent_records.proofs.OfExtentMaps.EditLemmas.{over, place_append}
use Rattle.extent_records.specs.Rows.{runs_in, runs_of}
use Rattle.extent_records.specs.Chains.{Finds, IsNone}
use Rattle.extent_records.specs.Writing.{IsMapRecord, places_in}
use Rattle.extent_records.proofs.ChainLemmas.{shows_record}
use Rattle.file_chains.specs.Files.{IsFile, map_records, places_of}
use Rattle.file_chains.specs.MapChanges.{HasPage}
use Rattle.file_chains.proofs.ChainChanges.{Picks}
use Rattle.file_chains.proofs.Gathers.{mapped_all, one_map_file, values, values_are}
use Rattle.file_chains.proofs.MapRecords.{runs_by_map}
use Rattle.file_chains.proofs.Walks.{Mapped}

values_map : (cs : List PlacedCell) (all : AllByRecursion Mapped cs) → AllByRecursion IsMapRecord (values cs all)
values_map [] all = tt
values_map (c ∷ cs) all = (all.0.map.is_map, values_map cs all.1)

pub maps_all : (pages : Pages) (start : CellAt) (chain : List PlacedCell) → IsFile pages start chain → AllByRecursion IsMapRecord (map_records (records_of chain))
maps_all pages start chain is = let all = mapped_all pages start chain is in subst (AllByRecursion IsMapRecord) (sym (values_are chain all)) (values_map chain all)

not_other : (x : PagePlace) → ((x ≡ Absent → ⊥) → ⊥) → x ≡ Absent
not_other Absent not = refl
not_other (At home) not = absurd (not (λ is. at_is home is))
  where
    at_is : (home : Home) → At home ≡ Absent → ⊥
    at_is home is = cc
not_other Hole not = absurd (not (λ is. hole_is is))
  where
    hole_is : Hole ≡ Absent → ⊥
    hole_is is = cc

-- where no record has a page, the chain has not
none_has : (page : ℕ) (rs : List Record) → IsNone (HasPage page) rs → place_of (runs_of rs) page ≡ Absent
none_has page [] none = refl
none_has page (r ∷ rs) none =
    place_append (runs_in r) (runs_of rs) page ∙ ap (λ x. over x (place_of (runs_of rs) page)) (not_other (places_in r page) none.0) ∙ none_has page rs none.1

absent_home : (x : PagePlace) → IsSome (home_at x) → x ≡ Absent → ⊥
absent_home x some is = true≢false (sym (subst (λ x. IsSome (home_at x)) is some))

pub some_has : (page : ℕ) (chain : List PlacedCell) → IsSome (home_at (places_of chain page)) → IsNone (HasPage page) (map_records (records_of chain)) → ⊥
some_has page chain some none = absent_home (places_of chain page) some (ap (λ rs. place_of rs page) (runs_by_map (records_of chain)) ∙ none_has page (map_records (records_of chain)) none)

-- the chain has the page where the record has it
pub shown : (pages : Pages) (start : CellAt) (chain : List PlacedCell) (is : IsFile pages start chain) (i : ℕ) (at : CellAt) (value : Record) (page : ℕ) → Picks pages i at value chain → HasPage page value → places_of chain page ≡ places_in value page
shown pages start chain is i at value page p has =
    ap (λ rs. place_of rs page) (runs_by_map (records_of chain))
    ∙ ⊎_elim (λ none. absurd (has none)) (λ same. same) (shows_record (map_records (records_of chain)) i value page p.within p.there (one_map_file pages start chain is))

pub among : (pages : Pages) (i : ℕ) (at : CellAt) (value : Record) (chain : List PlacedCell) → Picks pages i at value chain → Contains (map_records (records_of chain)) value
among pages i at value chain p = (i, p.within, p.there)

pub map_if : {A E : Type 0} {P Q : A → Type 0} (r : Result A E) → ((x : A) → P x → Q x) → IfOk r P → IfOk r Q
map_if (Ok x) f is = f x is
map_if (Err e) f is = is

pub found_within : (P : Record → Type 0) (records : List Record) (i : ℕ) → Finds P records (Some i) → i < length records
found_within P records i found = found.within

pub found_is : (P : Record → Type 0) (records : List Record) (i : ℕ) (value : Record) → Finds P records (Some i) → get_or records i value ≡ value → P value
found_is P records i value found is = subst P is (found.is value)
