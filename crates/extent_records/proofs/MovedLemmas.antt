-- The rows of a map that has one page at another home: two more at most.
use Rattle.std.proofs.Common.{◌≡◌, ℕ, ◌+◌, ◌-◌, ◌<◌, ◌≤◌, Bool, true, false, cond, eqb, ltb, List, [], ◌∷◌, ◌++◌, length, length-append, refl, sym, ap, ◌∙◌, arith}
use Rattle.std.proofs.lemmas.Bool.{eq-eqb, eqb-true, ltb-true, ltb-false}
use Rattle.cell_records.specs.domain_base.declared.place.Home.{Home}
use Rattle.extent_maps.specs.declared.run.Run.{Run}
use Rattle.extent_maps.specs.declared.run.PagePlace.{PagePlace}
use Rattle.extent_maps.specs.declared.run.PagePlace.TheVariants.{Absent, At}
use Rattle.extent_maps.specs.declared.run.RunPlace.TheVariants as place
use Rattle.extent_maps.specs.Runs.{AreRuns, behind, covers, end_of, front_of, front_piece, place_of, placed, rest_from, rest_piece, with_place}
use Rattle.extent_maps.proofs.RunLemmas.{covers_not_before, covers_not_behind}
use Rattle.extent_maps.proofs.EditLemmas.{behind_twice, covers_from, covers_is}
use Rattle.extent_records.specs.Writing.{parts, pieces}
use Rattle.extent_records.proofs.FewestLemmas.{RisingFrom, few_pieces, fewest}
use Rattle.extent_records.proofs.FrontLemmas.{rise_before}

abbrev one_row : ℕ → Home → Run
one_row page home = record { page = page; count = 1; first = place.At home }

-- a row without one of its pages, and that page at the home
abbrev around : ℕ → Home → Run → List Run → List Run
around page home r rs = front_piece (page - r.page) r ++ one_row page home ∷ (rest_piece (page - r.page) r ++ rs)

-- rows, with the one that has the page changed like that
abbrev moved : ℕ → Home → List Run → List Run
moved page home [] = []
moved page home (r ∷ rs) = cond (covers r page) (around page home r rs) (r ∷ moved page home rs)

few_front : (o : ℕ) (r : Run) (xs : List Run) → length (front_piece o r ++ xs) ≤ 1 + length xs
few_front o r xs = go (eqb o 0) refl
  where
    go : (b : Bool) → eqb o 0 ≡ b → length (front_piece o r ++ xs) ≤ 1 + length xs
    go true e = rw e (omega arith)
    go false e = rw e (omega arith)

few_rest : (o : ℕ) (r : Run) (xs : List Run) → length (rest_piece o r ++ xs) ≤ 1 + length xs
few_rest o r xs = go (eqb r.count (o + 1)) refl
  where
    go : (b : Bool) → eqb r.count (o + 1) ≡ b → length (rest_piece o r ++ xs) ≤ 1 + length xs
    go true e = rw e (omega arith)
    go false e = rw e (omega arith)

few_moved : (page : ℕ) (home : Home) (rows : List Run) → length (moved page home rows) ≤ length rows + 2
few_moved page home [] = omega arith
few_moved page home (r ∷ rs) = go (covers r page) refl (few_moved page home rs)
  where
    go : (b : Bool) → covers r page ≡ b → length (moved page home rs) ≤ length rs + 2 → length (moved page home (r ∷ rs)) ≤ length (r ∷ rs) + 2
    go true e tail = rw e (omega (
      arith,
      few_front (page - r.page) r (one_row page home ∷ (rest_piece (page - r.page) r ++ rs)),
      few_rest (page - r.page) r rs,
    ))
    go false e tail = rw e (omega (arith, tail))

-- ** They rise

front_rises : (most from o : ℕ) (r : Run) (xs : List Run) → from ≤ r.page → o < r.count → r.count ≤ most → RisingFrom most (r.page + o) xs → RisingFrom most from (front_piece o r ++ xs)
front_rises most from o r xs le lt few h = go (eqb o 0) refl
  where
    go : (b : Bool) → eqb o 0 ≡ b → RisingFrom most from (front_piece o r ++ xs)
    go true e = rw e (rise_before most (r.page + o) from xs (omega (arith, le)) h)
    go false e = rw e (le, some e, omega (arith, lt, few), h)
      where
        some : eqb o 0 ≡ false → 1 ≤ o
        some e = grind (arith, e)

rest_rises : (most o : ℕ) (r : Run) (xs : List Run) → o < r.count → r.count ≤ most → RisingFrom most (end_of r) xs → RisingFrom most (r.page + o + 1) (rest_piece o r ++ xs)
rest_rises most o r xs lt few h = go (eqb r.count (o + 1)) refl
  where
    go : (b : Bool) → eqb r.count (o + 1) ≡ b → RisingFrom most (r.page + o + 1) (rest_piece o r ++ xs)
    go true e = rw e (rise_before most (end_of r) (r.page + o + 1) xs (omega (arith, lt)) h)
    go false e = rw e (
      omega arith,
      more e,
      omega (arith, few),
      rise_before most (end_of r) (end_of (rest_from (o + 1) r)) xs (omega (arith, lt)) h,
    )
      where
        more : eqb r.count (o + 1) ≡ false → 1 ≤ r.count - (o + 1)
        more e = grind (arith, e, lt)

moved_rises : (page : ℕ) (home : Home) (most from : ℕ) (rows : List Run) → 1 ≤ most → RisingFrom most from rows → RisingFrom most from (moved page home rows)
moved_rises page home most from [] one h = tt
moved_rises page home most from (r ∷ rs) one h = go (covers r page) refl (moved_rises page home most (end_of r) rs one h.3)
  where
    o : ℕ
    o = page - r.page

    go : (b : Bool) → covers r page ≡ b → RisingFrom most (end_of r) (moved page home rs) → RisingFrom most from (moved page home (r ∷ rs))
    go true e tail =
        let is = covers_is r page e in
        let lt : o < r.count = omega (arith, is.0, is.1) in
        let rest : RisingFrom most (page + 1) (rest_piece o r ++ rs) = rise_before most (r.page + o + 1) (page + 1) (rest_piece o r ++ rs) (omega (arith, is.0)) (rest_rises most o r rs lt h.2 h.3) in
        rw e (front_rises most from o r (one_row page home ∷ (rest_piece o r ++ rs)) h.0 lt h.2 (omega (arith, is.0), omega arith, one, rest))
    go false e tail = rw e (h.0, h.1, h.2, tail)

-- ** They have each page where the rows have it, and the one at the home

front_is : (o : ℕ) (r : Run) (xs : List Run) (p : ℕ) → place_of (front_piece o r ++ xs) p ≡ cond (covers (front_of o r) p) (placed (behind (p - r.page) r.first)) (place_of xs p)
front_is o r xs p = go (eqb o 0) refl
  where
    go : (b : Bool) → eqb o 0 ≡ b → place_of (front_piece o r ++ xs) p ≡ cond (covers (front_of o r) p) (placed (behind (p - r.page) r.first)) (place_of xs p)
    go true e =
        let none : covers (front_of o r) p ≡ false = (let zero = eqb-true o 0 e in covers_nothing zero) in
        rw (e, none) refl
      where
        covers_nothing : o ≡ 0 → covers (front_of o r) p ≡ false
        covers_nothing z = grind (arith, z)
    go false e = rw e refl

rest_is : (o : ℕ) (r : Run) (xs : List Run) (p : ℕ) → place_of (rest_piece o r ++ xs) p ≡ cond (covers (rest_from (o + 1) r) p) (placed (behind (p - (r.page + (o + 1))) (behind (o + 1) r.first))) (place_of xs p)
rest_is o r xs p = go (eqb r.count (o + 1)) refl
  where
    go : (b : Bool) → eqb r.count (o + 1) ≡ b → place_of (rest_piece o r ++ xs) p ≡ cond (covers (rest_from (o + 1) r) p) (placed (behind (p - (r.page + (o + 1))) (behind (o + 1) r.first))) (place_of xs p)
    go true e =
        let none : covers (rest_from (o + 1) r) p ≡ false = covers_nothing (eqb-true r.count (o + 1) e) in
        rw (e, none) refl
      where
        covers_nothing : r.count ≡ o + 1 → covers (rest_from (o + 1) r) p ≡ false
        covers_nothing z = grind (arith, z)
    go false e = rw e refl

at_home : (home : Home) (n : ℕ) → n ≡ 0 → placed (behind n (place.At home)) ≡ At home
at_home home n e = grind (arith, e)

module _ (page : ℕ) (home : Home) (r : Run) (rs : List Run) (p : ℕ) (first : r.page ≤ page) (last : page < end_of r) where
  abbrev o : ℕ
  o = page - r.page

  abbrev there : PagePlace
  there = placed (behind (p - r.page) r.first)

  whole : place_of (around page home r rs) p ≡ cond (covers (front_of o r) p) there
      (cond (covers (one_row page home) p) (placed (behind (p - page) (place.At home)))
      (cond (covers (rest_from (o + 1) r) p) (placed (behind (p - (r.page + (o + 1))) (behind (o + 1) r.first))) (place_of rs p)))
  whole = front_is o r (one_row page home ∷ (rest_piece o r ++ rs)) p
      ∙ ap (λ x. cond (covers (front_of o r) p) there (cond (covers (one_row page home) p) (placed (behind (p - page) (place.At home))) x)) (rest_is o r rs p)

  abbrev Same : Type 0
  Same = place_of (around page home r rs) p ≡ with_place page (At home) (place_of (r ∷ rs)) p

  other : ¬ p ≡ page → eqb p page ≡ false
  other not_page = grind (arith, not_page)

  before : p < r.page → Same
  before lt =
      let a : covers (front_of o r) p ≡ false = covers_not_before (front_of o r) p lt in
      let b : covers (one_row page home) p ≡ false = covers_not_before (one_row page home) p (omega (arith, lt, first)) in
      let c : covers (rest_from (o + 1) r) p ≡ false = covers_not_before (rest_from (o + 1) r) p (omega (arith, lt)) in
      let d : covers r p ≡ false = covers_not_before r p lt in
      whole ∙ rw (a, b, c, d, other (λ e. omega (arith, e, lt, first))) refl

  in_front : r.page ≤ p → p < page → Same
  in_front le lt =
      let a : covers (front_of o r) p ≡ true = covers_from (front_of o r) p le (omega (arith, lt, first)) in
      let d : covers r p ≡ true = covers_from r p le (omega (arith, lt, last)) in
      whole ∙ rw (a, d, other (λ e. omega (arith, e, lt))) refl

  here : p ≡ page → Same
  here e =
      let a : covers (front_of o r) p ≡ false = covers_not_behind (front_of o r) p (omega (arith, e, first)) in
      let b : covers (one_row page home) p ≡ true = covers_from (one_row page home) p (omega (arith, e)) (omega (arith, e)) in
      whole ∙ rw (a, b, eq-eqb p page e) (at_home home (p - page) (omega (arith, e)))

  in_rest : page < p → p < end_of r → Same
  in_rest gt lt =
      let a : covers (front_of o r) p ≡ false = covers_not_behind (front_of o r) p (omega (arith, gt, first)) in
      let b : covers (one_row page home) p ≡ false = covers_not_behind (one_row page home) p (omega (arith, gt)) in
      let c : covers (rest_from (o + 1) r) p ≡ true = covers_from (rest_from (o + 1) r) p (omega (arith, gt, first)) (omega (arith, gt, lt, first, last)) in
      let d : covers r p ≡ true = covers_from r p (omega (arith, gt, first)) lt in
      let far : o + 1 + (p - (r.page + (o + 1))) ≡ p - r.page = omega (arith, gt, first) in
      let same = sym (behind_twice (o + 1) (p - (r.page + (o + 1))) r.first) ∙ ap (λ n. behind n r.first) far in
      whole ∙ rw (a, b, c, d, other (λ e. omega (arith, e, gt))) (ap placed same)

  behind_it : end_of r ≤ p → Same
  behind_it le =
      let a : covers (front_of o r) p ≡ false = covers_not_behind (front_of o r) p (omega (arith, le, first, last)) in
      let b : covers (one_row page home) p ≡ false = covers_not_behind (one_row page home) p (omega (arith, le, last)) in
      let c : covers (rest_from (o + 1) r) p ≡ false = covers_not_behind (rest_from (o + 1) r) p (omega (arith, le, first, last)) in
      let d : covers r p ≡ false = covers_not_behind r p le in
      whole ∙ rw (a, b, c, d, other (λ e. omega (arith, e, le, last))) refl

  each : Same
  each = go (ltb p r.page) refl (ltb p page) refl (ltb page p) refl (ltb p (end_of r)) refl
    where
      go : (a : Bool) → ltb p r.page ≡ a → (b : Bool) → ltb p page ≡ b → (c : Bool) → ltb page p ≡ c → (d : Bool) → ltb p (end_of r) ≡ d → Same
      go true e b f c g d h = before (ltb-true p r.page e)
      go false e true f c g d h = in_front (ltb-false p r.page e) (ltb-true p page f)
      go false e false f true g true h = in_rest (ltb-true page p g) (ltb-true p (end_of r) h)
      go false e false f true g false h = behind_it (ltb-false p (end_of r) h)
      go false e false f false g d h = here (omega (arith, ltb-false p page f, ltb-false page p g))

moved_places : (page : ℕ) (home : Home) (rows : List Run) (p : ℕ) → (place_of rows page ≡ Absent → ⊥) → place_of (moved page home rows) p ≡ with_place page (At home) (place_of rows) p
moved_places page home [] p some = absurd (some refl)
moved_places page home (r ∷ rs) p some = go (covers r page) refl (λ later. moved_places page home rs p later)
  where
    go : (b : Bool) → covers r page ≡ b → ((place_of rs page ≡ Absent → ⊥) → place_of (moved page home rs) p ≡ with_place page (At home) (place_of rs) p)
        → place_of (moved page home (r ∷ rs)) p ≡ with_place page (At home) (place_of (r ∷ rs)) p
    go true e more = let is = covers_is r page e in rw e (each page home r rs p is.0 is.1)
    go false e more = rw e (next e (more (λ none. some (rw e none))))
      where
        next : covers r page ≡ false → place_of (moved page home rs) p ≡ with_place page (At home) (place_of rs) p → place_of (r ∷ moved page home rs) p ≡ with_place page (At home) (place_of (r ∷ rs)) p
        next lacks tail = by_page (eqb p page) refl
          where
            by_page : (b : Bool) → eqb p page ≡ b → place_of (r ∷ moved page home rs) p ≡ with_place page (At home) (place_of (r ∷ rs)) p
            by_page true f =
                let here : covers r p ≡ false = ap (covers r) (eqb-true p page f) ∙ lacks in
                rw here (tail ∙ rw f refl)
            by_page false f =
                ap (cond (covers r p) (placed (behind (p - r.page) r.first))) (tail ∙ ap (λ b. cond b (At home) (place_of rs p)) f)
                ∙ sym (ap (λ b. cond b (At home) (place_of (r ∷ rs) p)) f)

-- runs are no more than their rows
runs_few : (most : ℕ) (runs : List Run) → length runs ≤ length (parts most runs)
runs_few most [] = omega arith
runs_few most (r ∷ rs) = omega (arith, runs_few most rs, (few_pieces most r).0, length-append (pieces most r) (parts most rs))

-- the runs of a map with one page at another home are two more than the rows of it at most
pub moved_few : (page : ℕ) (home : Home) (most : ℕ) (rows runs : List Run) → 1 ≤ most → RisingFrom most 0 rows → AreRuns runs → (place_of rows page ≡ Absent → ⊥)
    → ((p : ℕ) → place_of runs p ≡ with_place page (At home) (place_of rows) p) → length runs ≤ length rows + 2
moved_few page home most rows runs one rise are some same =
    let least : length (parts most runs) ≤ length (moved page home rows) =
    fewest most (moved page home rows) runs 0 are (moved_rises page home most 0 rows one rise) (λ p. same p ∙ sym (moved_places page home rows p some)) in
    omega (arith, least, runs_few most runs, few_moved page home rows)
