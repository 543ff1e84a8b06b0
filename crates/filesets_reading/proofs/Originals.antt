-- What an original has at a tag.
use Rattle.std.proofs.Common.{◌≡◌, ◌∙◌, ℕ, zero, suc, ◌+◌, ◌-◌, ◌<◌, ◌≤◌, Bool, true, false, cond, nat_lt, List, [], ◌∷◌, ◌++◌, length, Option, Some, None, slice_get, refl, sym, ap, subst, arith, ⊎_elim}
use Rattle.std.proofs.lemmas.Bool.{cases_lt, le-ltb, lt-ltb}
use Rattle.std.proofs.lemmas.Option.{slice_get_past}
use Rattle.std.specs.Option.{option_and_then, option_map, option_map_or}
use Rattle.domain_layout.specs.domain_base.declared.place.Home.{Home}
use Rattle.domain_layout.specs.cell_records.declared.record.Record.{Record}
use Rattle.domain_layout.specs.cell_records.declared.record.Record.TheVariants as written
use Rattle.domain_layout.specs.metadata_cells.Chain.{PlacedCell}
use Rattle.domain_layout.specs.extent_maps.Runs.{AreRuns, Places, behind, end_of, home_at, place_of, placed}
use Rattle.domain_layout.specs.extent_maps.declared.run.PagePlace.TheVariants.{Absent}
use Rattle.domain_layout.specs.extent_maps.declared.run.Run.{Run}
use Rattle.domain_layout.proofs.OfExtentMaps.RunLemmas.{covers_not_behind}
use Rattle.domain_layout.specs.extent_records.Writing.{places_before}
use Rattle.domain_layout.specs.file_chains.Files.{places_of}
use Rattle.domain_layout.specs.fileset_files.Files.{attributes_in, attributes_of, first_record, is_removed, keep_in, keep_of, of_live}
use Rattle.domain_layout.specs.fileset_files.declared.attributes.Attributes.{Attributes}
use Rattle.domain_layout.specs.Seen.{SeenFile, kept_by, seen_in}
use Rattle.domain_layout.proofs.OnePage.{some_same}
use Rattle.filesets_reading.specs.Seen.{IsSeenThere, ListsHomes, home_in}
use Rattle.filesets_reading.specs.declared.seen.SeenPages.{SeenPages}
use Rattle.filesets_reading.proofs.Ways.{get_front, get_seam, pushed}

-- ---- homes page by page

-- the list has the homes of the pages up to one
pub record ListsUpTo (places : Places) (homes : List (Option Home)) (page : ℕ) : Type 0 where
  pub count : length homes ≡ page
  pub each : (p : ℕ) → p < page → slice_get homes p ≡ Some (home_at (places p))

pub list_begins : (places : Places) → ListsUpTo places [] 0
list_begins places = record { count = refl; each = λ p low. absurd (omega (arith, low)) }

pub list_on : (places : Places) (homes : List (Option Home)) (page : ℕ) (home : Option Home) → ListsUpTo places homes page → home ≡ home_at (places page) → ListsUpTo places (homes ++ home ∷ []) (page + 1)
list_on places homes page home lists is = record {
  count = pushed homes home ∙ omega (arith, lists.count);
  each = λ p below.
      ⊎_elim (λ low. get_front homes (home ∷ []) p (omega (arith, low, lists.count)) ∙ lists.each p low)
      (λ high.
      let last : page ≡ p = omega (arith, below, high) in
      subst (λ n. slice_get (homes ++ home ∷ []) n ≡ Some (home_at (places n))) last
      (subst (λ n. slice_get (homes ++ home ∷ []) n ≡ Some (home_at (places page))) lists.count (get_seam homes home ∙ ap Some is))) (cases_lt p page);
}

-- pages after the last are in no list and in no run
pub list_ends : (places : Places) (homes : List (Option Home)) (from end : ℕ) → ListsUpTo places homes end → ((p : ℕ) → end ≤ p → home_at (places_before from places p) ≡ None) → end ≤ from → ListsHomes (places_before from places) homes
list_ends places homes from end lists none within page =
    ⊎_elim (λ low.
    ap (option_and_then (λ home. home)) (lists.each page low) ∙ ap (λ b. home_at (cond b (places page) Absent)) (sym (lt-ltb page from (omega (arith, low, within)))))
    (λ high. ap (option_and_then (λ home. home)) (slice_get_past homes page (omega (arith, high, lists.count))) ∙ sym (none page high)) (cases_lt page end)

-- after the end of all runs, and after the pages that are kept, nothing is
pub none_behind : (places : Places) (from end p : ℕ) → (end ≤ p → places p ≡ Absent) → (p < from → end ≤ p) → home_at (places_before from places p) ≡ None
none_behind places from end p absent later =
    ⊎_elim (λ low. ap (λ b. home_at (cond b (places p) Absent)) (lt-ltb p from low) ∙ ap home_at (absent (later low)))
    (λ high. ap (λ b. home_at (cond b (places p) Absent)) (le-ltb p from high)) (cases_lt p from)

-- ---- the end of runs

-- a run that ends before a page does not have it
skips : (r : Run) (runs : List Run) (page : ℕ) → end_of r ≤ page → place_of (r ∷ runs) page ≡ place_of runs page
skips r runs page ends = ap (λ b. cond b (placed (behind (page - r.page) r.first)) (place_of runs page)) (covers_not_behind r page ends)

-- the last run ends after all others
pub all_before : (r : Run) (runs : List Run) (last : Run) → AreRuns (r ∷ runs) → slice_get (r ∷ runs) (length runs) ≡ Some last → (page : ℕ) → end_of last ≤ page → (end_of r ≤ page) × (place_of (r ∷ runs) page ≡ Absent)
all_before r [] last are is page after =
    let same : end_of r ≡ end_of last = ap end_of (some_same r last is) in
    let ends : end_of r ≤ page = omega (arith, same, after) in
    (ends, skips r [] page ends)
all_before r (next ∷ runs) last are is page after =
    let more = all_before next runs last are.2 is page after in
    let ends : end_of r ≤ page = omega (arith, more.0, are.1.behind, are.2.0.some) in
    (ends, skips r (next ∷ runs) page ends ∙ more.1)

-- after the end of the last run no page is there, and it ends where a file may
pub behind_last : (runs : List Run) (last : Run) (k : ℕ) → AreRuns runs → slice_get runs k ≡ Some last → k + 1 ≡ length runs → (page : ℕ) → end_of last ≤ page → place_of runs page ≡ Absent
behind_last [] last k are is count page ends = refl
behind_last (r ∷ runs) last k are is count page ends =
    let at : k ≡ length runs = omega (arith, count) in
    (all_before r runs last are (ap (slice_get (r ∷ runs)) (sym at) ∙ is) page ends).1

pub run_at : (runs : List Run) (k : ℕ) (run : Run) → AreRuns runs → slice_get runs k ≡ Some run → end_of run ≤ 65536
run_at [] k run are is = absurd (let e : None ≡ Some run = is in absurd (cc))
run_at (r ∷ runs) zero run are is = subst (λ x. end_of x ≤ 65536) (some_same r run is) are.0.ends
run_at (r ∷ runs) (suc k) run are is = run_at runs k run are.2 is

-- ---- a file

none_some : {P : Type 0} {X : Type 0} (x : X) → None ≡ Some x → P
none_some x is = absurd (cc)

module _ (cells : List PlacedCell) (is : Attributes) (keep : ℕ) where
  abbrev file : SeenFile
  file = record { is = is; homes = λ page. home_at (places_before keep (places_of cells) page) }

  file_there : is_removed cells ≡ false → attributes_of cells ≡ Some is → keep_of cells ≡ Some keep → seen_in cells ≡ Some file
  file_there live same kept =
      ap (λ b. cond b None (option_and_then (kept_by cells) (attributes_of cells))) live
      ∙ ap (option_and_then (kept_by cells)) same
      ∙ ap (option_map (λ (k : ℕ). record { is = is; homes = λ page. home_at (places_before k (places_of cells) page) })) kept

pub original_there : (chain : Option (List PlacedCell)) (found : SeenPages) (keep : ℕ) (map : List Run) → option_and_then (of_live attributes_of) chain ≡ Some found.is → option_and_then (of_live keep_of) chain ≡ Some keep
    → ((page : ℕ) → place_of map page ≡ option_map_or (λ cells. places_of cells page) chain Absent) → ListsHomes (places_before keep (place_of map)) found.homes.items → IsSeenThere (option_and_then seen_in chain) (Some found)
original_there None found keep map attributes kept same lists = none_some found.is attributes
original_there (Some cells) found keep map attributes kept same lists = by_removed (is_removed cells) refl attributes kept
  where
    homes : (page : ℕ) → home_in found.homes.items page ≡ home_at (places_before keep (places_of cells) page)
    homes page = lists page ∙ ap (λ place. home_at (cond (nat_lt page keep) place Absent)) (same page)

    by_removed : (b : Bool) → is_removed cells ≡ b → cond b None (attributes_of cells) ≡ Some found.is → cond b None (keep_of cells) ≡ Some keep → IsSeenThere (seen_in cells) (Some found)
    by_removed true gone attributes kept = none_some found.is attributes
    by_removed false live attributes kept =
        subst (λ o. IsSeenThere o (Some found)) (sym (file_there cells found.is keep live attributes kept))
        (record { is = refl; homes = homes })

pub none_there : (chain : Option (List PlacedCell)) → option_and_then (of_live attributes_of) chain ≡ None → option_and_then seen_in chain ≡ None
none_there None none = refl
none_there (Some cells) none = by_removed (is_removed cells) refl none
  where
    by_removed : (b : Bool) → is_removed cells ≡ b → cond b None (attributes_of cells) ≡ None → seen_in cells ≡ None
    by_removed true gone none = ap (λ b. cond b None (option_and_then (kept_by cells) (attributes_of cells))) gone
    by_removed false live none = ap (λ b. cond b None (option_and_then (kept_by cells) (attributes_of cells))) live ∙ ap (option_and_then (kept_by cells)) none

-- a file that has attributes keeps this number of pages
pub keep_there : (chain : Option (List PlacedCell)) (is : Attributes) → option_and_then (of_live attributes_of) chain ≡ Some is → option_and_then (of_live keep_of) chain ≡ None → ⊥
keep_there None is attributes none = none_some is attributes
keep_there (Some cells) is attributes none = by_removed (is_removed cells) attributes none
  where
    by_value : (r : Record) → attributes_in r ≡ Some is → keep_in r ≡ None → ⊥
    by_value (written.Attributes kind uid gid flags size keep links birth unsynced) same none = none_some keep (sym none)
    by_value _ same none = none_some is same

    by_record : (o : Option Record) → option_and_then attributes_in o ≡ Some is → option_and_then keep_in o ≡ None → ⊥
    by_record None same none = none_some is same
    by_record (Some r) same none = by_value r same none

    by_removed : (b : Bool) → cond b None (attributes_of cells) ≡ Some is → cond b None (keep_of cells) ≡ None → ⊥
    by_removed true attributes none = none_some is attributes
    by_removed false attributes none = by_record (first_record 1 cells) attributes none
