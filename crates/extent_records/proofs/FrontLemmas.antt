-- The rows of the pages before one: no more than those of all pages.
use Rattle.std.proofs.Common.{◌≡◌, ℕ, ◌+◌, ◌-◌, ◌≤◌, min, Bool, true, false, cond, ltb, List, [], ◌∷◌, ◌++◌, length, refl, sym, ◌∙◌, inl, inr, arith}
use Rattle.std.specs.List.{flat_map}
use Rattle.std.proofs.lemmas.Bool.{cases_Bool, ltb-true, ltb-false}
use Rattle.extent_maps.specs.declared.run.Run.{Run}
use Rattle.extent_maps.specs.declared.run.PagePlace.{PagePlace}
use Rattle.extent_maps.specs.Runs.{AreRuns, behind, covers, end_of, front_of, place_of, placed}
use Rattle.extent_maps.proofs.RunLemmas.{covers_not_behind}
use Rattle.extent_maps.proofs.EditLemmas.{covers_from, covers_is}
use Rattle.cell_records.specs.declared.record.Record.{Record}
use Rattle.cell_records.specs.Records.{kind_of}
use Rattle.extent_records.specs.Rows.{runs_in}
use Rattle.extent_records.specs.Writing.{IsMapRecord, most_pages, most_rows, places_before, places_in, rows_for}
use Rattle.extent_records.proofs.FewestLemmas.{RisingFrom, fewest}
use Rattle.extent_records.proofs.RecordLemmas.{allowed_few}

-- the pages of a row before one
abbrev in_front : ℕ → Run → List Run
in_front from run = cond (ltb run.page from) (front_of (min run.count (from - run.page)) run ∷ []) []

pub rise_before : (most a b : ℕ) (runs : List Run) → b ≤ a → RisingFrom most a runs → RisingFrom most b runs
rise_before most a b [] le h = tt
rise_before most a b (r ∷ rs) le h = (omega (arith, le, h.0), h.1, h.2, h.3)

front_rise : (from most a : ℕ) (runs : List Run) → RisingFrom most a runs → RisingFrom most a (flat_map (in_front from) runs)
front_rise from most a [] h = tt
front_rise from most a (r ∷ rs) h = go (ltb r.page from) refl (front_rise from most (end_of r) rs h.3)
  where
    go : (b : Bool) → ltb r.page from ≡ b → RisingFrom most (end_of r) (flat_map (in_front from) rs) → RisingFrom most a (flat_map (in_front from) (r ∷ rs))
    go true e tail =
        let lt = ltb-true r.page from e in
        rw e (h.0, omega (arith, lt, h.1), omega (arith, h.2), rise_before most (end_of r) (r.page + min r.count (from - r.page)) (flat_map (in_front from) rs) (omega arith) tail)
    go false e tail = rw e (rise_before most (end_of r) a (flat_map (in_front from) rs) (omega (arith, h.0)) tail)

front_few : (from : ℕ) (runs : List Run) → length (flat_map (in_front from) runs) ≤ length runs
front_few from [] = omega arith
front_few from (r ∷ rs) =
    let tail = front_few from rs in
    elim (cases_Bool (ltb r.page from)) [
      | inl e ↦ rw e (omega (arith, tail))
      | inr e ↦ rw e (omega (arith, tail))
    ]

-- one row more before rows whose places before a page are known
front_place : (from : ℕ) (r : Run) (xs ys : List Run) (p : ℕ) → place_of xs p ≡ places_before from (place_of ys) p
    → place_of (in_front from r ++ xs) p ≡ places_before from (place_of (r ∷ ys)) p
front_place from r xs ys p tail = go (ltb r.page from) refl (ltb p from) refl (covers r p) refl
  where
    m : ℕ
    m = min r.count (from - r.page)

    at : PagePlace
    at = placed (behind (p - r.page) r.first)

    go : (a : Bool) → ltb r.page from ≡ a → (b : Bool) → ltb p from ≡ b → (c : Bool) → covers r p ≡ c → place_of (in_front from r ++ xs) p ≡ places_before from (place_of (r ∷ ys)) p
    go true e true f true g =
        let is = covers_is r p g in
        let has : covers (front_of m r) p ≡ true = covers_from (front_of m r) p is.0 (omega (arith, is.1, ltb-true p from f)) in
        rw (e, f, g, has) refl
    go true e true f false g = rw (e, f, g) (small e g (tail ∙ rw f refl))
      where
        small : ltb r.page from ≡ true → covers r p ≡ false → place_of xs p ≡ place_of ys p → place_of (front_of m r ∷ xs) p ≡ place_of ys p
        small e g t = let lacks : covers (front_of m r) p ≡ false = grind (arith, g) in rw lacks t
    go true e false f c g =
        let beyond : end_of (front_of m r) ≤ p = omega (arith, ltb-false p from f, ltb-true r.page from e) in
        rw (e, f) (rw (covers_not_behind (front_of m r) p beyond) (tail ∙ rw f refl))
    go false e true f true g = absurd (let is = covers_is r p g in omega (arith, is.0, ltb-true p from f, ltb-false r.page from e))
    go false e true f false g = rw (e, f, g) (tail ∙ rw f refl)
    go false e false f c g = rw (e, f) (tail ∙ rw f refl)

front_places : (from : ℕ) (runs : List Run) (p : ℕ) → place_of (flat_map (in_front from) runs) p ≡ places_before from (place_of runs) p
front_places from [] p = elim (cases_Bool (ltb p from)) [
  | inl e ↦ rw e refl
  | inr e ↦ rw e refl
]
front_places from (r ∷ rs) p = front_place from r (flat_map (in_front from) rs) rs p (front_places from rs p)

-- the runs of the pages before one have room where a record had all
pub front_fits : (r : Record) (from : ℕ) (front : List Run) → IsMapRecord r → AreRuns front → ((p : ℕ) → place_of front p ≡ places_before from (places_in r) p)
    → length (rows_for (kind_of r) front) ≤ most_rows (kind_of r)
front_fits r from front is h same =
    let few = allowed_few r is.allowed in
    let cut = flat_map (in_front from) (runs_in r) in
    let least : length (rows_for (kind_of r) front) ≤ length cut = fewest (most_pages (kind_of r)) cut front 0 h (front_rise from (most_pages (kind_of r)) 0 (runs_in r) few.rising) (λ p. same p ∙ sym (front_places from (runs_in r) p)) in
    omega (arith, least, front_few from (runs_in r), few.few)
