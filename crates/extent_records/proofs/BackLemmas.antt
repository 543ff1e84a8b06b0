-- The rows of the pages from one on: no more than those of all pages.
use Rattle.std.proofs.Common.{◌≡◌, ℕ, ◌-◌, ◌≤◌, ◌<◌, Bool, true, false, cond, ltb, leb, List, [], ◌∷◌, ◌++◌, length, refl, sym, ap, subst, ◌∙◌, inl, inr, arith}
use Rattle.std.specs.List.{flat_map}
use Rattle.std.proofs.lemmas.Bool.{cases_Bool, leb-true, leb-false, ltb-true, ltb-false}
use Rattle.extent_maps.specs.declared.run.Run.{Run}
use Rattle.extent_maps.specs.declared.run.PagePlace.TheVariants.{Absent}
use Rattle.extent_maps.specs.Runs.{AreRuns, SamePlaces, behind, covers, end_of, front_of, place_of, placed, rest_from}
use Rattle.cell_records.specs.declared.record.Record.{Record}
use Rattle.cell_records.specs.Records.{kind_of}
use Rattle.extent_records.specs.Rows.{runs_in}
use Rattle.extent_records.specs.Writing.{IsMapRecord, Suits, most_pages, most_rows, places_from, places_in, rows_for}
use Rattle.extent_records.proofs.FewestLemmas.{RisingFrom, fewest, place_not_before, place_not_behind, split_places}
use Rattle.extent_records.proofs.FrontLemmas.{rise_before}
use Rattle.extent_records.proofs.RecordLemmas.{allowed_few, suits_map}

-- the pages of a row from one on
abbrev in_back : ℕ → Run → List Run
in_back from run = cond (leb (end_of run) from) [] (rest_from (from - run.page) run ∷ [])

back_rise : (from most a : ℕ) (runs : List Run) → RisingFrom most a runs → RisingFrom most a (flat_map (in_back from) runs)
back_rise from most a [] h = tt
back_rise from most a (r ∷ rs) h = go (leb (end_of r) from) refl (back_rise from most (end_of r) rs h.3)
  where
    go : (b : Bool) → leb (end_of r) from ≡ b → RisingFrom most (end_of r) (flat_map (in_back from) rs) → RisingFrom most a (flat_map (in_back from) (r ∷ rs))
    go true e tail = rw e (rise_before most (end_of r) a (flat_map (in_back from) rs) (omega (arith, h.0)) tail)
    go false e tail =
        let lt = leb-false (end_of r) from e in
        rw e (
          omega (arith, h.0),
          omega (arith, lt, h.1),
          omega (arith, h.2),
          rise_before most (end_of r) (end_of (rest_from (from - r.page) r)) (flat_map (in_back from) rs) (omega (arith, lt)) tail,
        )

back_few : (from : ℕ) (runs : List Run) → length (flat_map (in_back from) runs) ≤ length runs
back_few from [] = omega arith
back_few from (r ∷ rs) =
    let tail = back_few from rs in
    elim (cases_Bool (leb (end_of r) from)) [
      | inl e ↦ rw e (omega (arith, tail))
      | inr e ↦ rw e (omega (arith, tail))
    ]

-- one row more before rows whose places from a page on are known
back_place : (from : ℕ) (r : Run) (xs ys : List Run) (p : ℕ) → place_of xs p ≡ places_from from (place_of ys) p
    → place_of (in_back from r ++ xs) p ≡ places_from from (place_of (r ∷ ys)) p
back_place from r xs ys p tail = go (leb (end_of r) from) refl (ltb p from) refl
  where
    k : ℕ
    k = from - r.page

    go : (a : Bool) → leb (end_of r) from ≡ a → (b : Bool) → ltb p from ≡ b → place_of (in_back from r ++ xs) p ≡ places_from from (place_of (r ∷ ys)) p
    go true e true f = rw (e, f) (tail ∙ rw f refl)
    go true e false f =
        let le : end_of r ≤ p = omega (arith, leb-true (end_of r) from e, ltb-false p from f) in
        rw (e, f) (tail ∙ rw f refl ∙ sym (place_not_behind r ys p le))
    go false e true f =
        let lt : p < (rest_from k r).page = omega (arith, ltb-true p from f) in
        rw (e, f) (place_not_before (rest_from k r) xs p lt ∙ tail ∙ rw f refl)
    go false e false f =
        let few : k ≤ r.count = omega (arith, leb-false (end_of r) from e) in
        let some = leb-false (end_of r) from e in
        rw (e, f) (inside few (tail ∙ rw f refl))
      where
        inside : k ≤ r.count → place_of xs p ≡ place_of ys p → place_of (rest_from k r ∷ xs) p ≡ place_of (r ∷ ys) p
        inside few same = elim (cases_Bool (leb r.page p)) [
          | inl e2 ↦
              let le : end_of (front_of k r) ≤ p = omega (arith, leb-true r.page p e2, ltb-false p from f) in
              sym (place_not_behind (front_of k r) (rest_from k r ∷ xs) p le) ∙ sym (split_places k r xs few p) ∙ ap (cond (covers r p) (placed (behind (p - r.page) r.first))) same
          | inr e2 ↦
              let lt : p < r.page = leb-false r.page p e2 in
              place_not_before (rest_from k r) xs p (omega (arith, lt)) ∙ same ∙ sym (place_not_before r ys p lt)
        ]

back_places : (from : ℕ) (runs : List Run) (p : ℕ) → place_of (flat_map (in_back from) runs) p ≡ places_from from (place_of runs) p
back_places from [] p = elim (cases_Bool (ltb p from)) [
  | inl e ↦ rw e refl
  | inr e ↦ rw e refl
]
back_places from (r ∷ rs) p = back_place from r (flat_map (in_back from) rs) rs p (back_places from rs p)

-- the runs of the pages from one on have room where a record had all
pub back_fits : (r : Record) (from : ℕ) (tail : List Run) → IsMapRecord r → AreRuns tail → ((p : ℕ) → place_of tail p ≡ places_from from (places_in r) p)
    → length (rows_for (kind_of r) tail) ≤ most_rows (kind_of r)
back_fits r from tail is h same =
    let few = allowed_few r is.allowed in
    let cut = flat_map (in_back from) (runs_in r) in
    let least : length (rows_for (kind_of r) tail) ≤ length cut = fewest (most_pages (kind_of r)) cut tail 0 h (back_rise from (most_pages (kind_of r)) 0 (runs_in r) few.rising) (λ p. same p ∙ sym (back_places from (runs_in r) p)) in
    omega (arith, least, back_few from (runs_in r), few.few)

-- and suit it
pub suits_back : (r : Record) (map tail : List Run) (from : ℕ) → IsMapRecord r → SamePlaces (runs_in r) map → ((p : ℕ) → place_of tail p ≡ places_from from (place_of map) p)
    → (p : ℕ) → Suits (kind_of r) (place_of tail p)
suits_back r map tail from h same cut p = subst (Suits (kind_of r)) (sym (cut p)) (go (ltb p from))
  where
    go : (b : Bool) → Suits (kind_of r) (cond b Absent (place_of map p))
    go true = tt
    go false = suits_map r map p h same
