-- Rows written to records.
use Rattle.std.proofs.Common.{◌≡◌, ℕ, zero, suc, ◌+◌, ◌-◌, ◌<◌, ◌≤◌, ◌^◌, Bool, true, false, leb, eqb, List, [], ◌∷◌, ◌++◌, length, map, replicate, take, set, get_or, refl, sym, ap, subst, ◌∙◌, inl, inr, arith}
use Rattle.std.specs.List.{flat_map, AllByRecursion}
use Rattle.std.proofs.lemmas.Bool.{cases_Bool, leb-true, leb-false}
use Rattle.std.proofs.lemmas.List.{length-append, length-map, length-replicate, length-take-le, map_more, set_at}
use Rattle.extent_maps.specs.declared.run.Run.{Run}
use Rattle.extent_maps.specs.declared.run.RunPlace.{RunPlace}
use Rattle.extent_maps.specs.declared.run.RunPlace.TheVariants as place
use Rattle.extent_maps.specs.declared.run.PagePlace.TheVariants.{At}
use Rattle.extent_maps.specs.Runs.{AreRuns, BeginFrom, IsRun, behind, end_of, front_of, placed, rest_from}
use Rattle.extent_maps.proofs.RunLemmas.{all_map, behind_first}
use Rattle.extent_maps.proofs.EditLemmas.{front_is_run, rest_is_run}
use Rattle.cell_records.specs.declared.record.Record.TheVariants.{Extents, ShortExtents, Holes, DenseExtents, ShortDense}
use Rattle.cell_records.specs.declared.record.ExtentField.{ExtentField}
use Rattle.cell_records.specs.Records.{Allowed, AreExtents, AreHoles, IsExtent, NoExtent, NoHole}
use Rattle.extent_records.specs.Rows.{OnVolume, holes_at, runs_at}
use Rattle.extent_records.specs.Writing.{AllSuit, AreRowsFrom, HasRows, IsRow, Suits, extent_of, filled, hole_of, is_dense, is_of_holes, most_pages, no_extent, no_hole, parts, rows_for}
use Rattle.extent_records.proofs.FewestLemmas.{RisingFrom, pieces_one}

-- ** Runs as rows

pages_of : (kind : ℕ) → (65535 ≤ most_pages kind) × (most_pages kind ≤ 65536)
pages_of kind = elim (cases_Bool (is_dense kind)) [
  | inl dense ↦ rw dense (omega arith, omega arith)
  | inr plain ↦ rw plain (omega arith, omega arith)
]

pub suits_behind : (kind n : ℕ) (x : RunPlace) → Suits kind (placed x) → Suits kind (placed (behind n x))
suits_behind kind n (place.At home) h = h
suits_behind kind n place.Holes h = h

pub rows_from : (kind from : ℕ) (runs : List Run) → AreRuns runs → BeginFrom from runs → AllSuit kind runs → AreRowsFrom kind from (rows_for kind runs)
rows_from kind from [] h b s = tt
rows_from kind from (r ∷ rs) h b s = go (leb r.count (most_pages kind)) refl (rows_from kind (end_of r) rs h.2 (behind_first r rs h) s.1)
  where
    most : ℕ
    most = most_pages kind

    go : (short : Bool) → leb r.count (most_pages kind) ≡ short → AreRowsFrom kind (end_of r) (rows_for kind rs) → AreRowsFrom kind from (rows_for kind (r ∷ rs))
    go true e tail = rw e (record { is_run = h.0; begins = b.0; short = leb-true r.count (most_pages kind) e; suits = s.0 }, tail)
    go false e tail =
        let long : most_pages kind < r.count = leb-false r.count (most_pages kind) e in
        let bounds = pages_of kind in
        let some : 0 < most_pages kind = omega (arith, bounds.0) in
        let ends : end_of r ≡ end_of (rest_from (most_pages kind) r) = omega (arith, long) in
        let small : r.count ≤ 65536 = omega (arith, h.0.ends) in
        rw e (
          record { is_run = front_is_run (most_pages kind) r h.0 some long; begins = b.0; short = omega arith; suits = s.0 },
          (
            record { is_run = rest_is_run (most_pages kind) r h.0 long; begins = omega arith; short = omega (arith, small, bounds.0); suits = suits_behind kind (most_pages kind) r.first s.0 },
            subst (λ n. AreRowsFrom kind n (rows_for kind rs)) ends tail,
          ),
        )

from_first : (runs : List Run) → BeginFrom 0 runs
from_first [] = tt
from_first (r ∷ rs) = (omega arith, from_first rs)

-- the runs as rows
pub rows_of_runs : (kind : ℕ) (runs : List Run) → AreRuns runs → AllSuit kind runs → AreRowsFrom kind 0 (rows_for kind runs)
rows_of_runs kind runs h s = rows_from kind 0 runs h (from_first runs) s

pub rows_rise : (kind from : ℕ) (rows : List Run) → AreRowsFrom kind from rows → RisingFrom (most_pages kind) from rows
rows_rise kind from [] h = tt
rows_rise kind from (r ∷ rs) h = (h.0.begins, h.0.is_run.some, h.0.short, rows_rise kind (end_of r) rs h.1)

pub parts_short : (most : ℕ) (runs : List Run) → AllByRecursion (λ (r : Run). r.count ≤ most) runs → parts most runs ≡ runs
parts_short most [] h = refl
parts_short most (r ∷ rs) h = rw (pieces_one most r h.0) (ap (λ l. r ∷ l) (parts_short most rs h.1))

-- each run has no more pages than a file
pub parts_plain : (runs : List Run) → AreRuns runs → parts 65536 runs ≡ runs
parts_plain runs h = parts_short 65536 runs (short runs h)
  where
    short : (rs : List Run) → AreRuns rs → AllByRecursion (λ (r : Run). r.count ≤ 65536) rs
    short [] h = tt
    short (r ∷ rs) h = (omega (arith, h.0.ends), short rs h.2)

pub parts_dense_long : (r : Run) → 65535 < r.count → parts 65535 (r ∷ []) ≡ front_of 65535 r ∷ rest_from 65535 r ∷ []
parts_dense_long r lt =
    let long : leb r.count 65535 ≡ false = grind arith in
    rw long refl

-- after page 0 a run has fewer pages than a file
later_short : (rs : List Run) → AreRuns rs → AllByRecursion (λ (r : Run). 1 ≤ r.page) rs → AllByRecursion (λ (r : Run). r.count ≤ 65535) rs
later_short [] h b = tt
later_short (r ∷ rs) h b = (omega (arith, h.0.ends, b.0), later_short rs h.2 b.1)

-- each run has a dense row, if there are more than one, or the one is short
pub parts_dense : (runs : List Run) (d : Run) → AreRuns runs → (length runs ≡ 1 → (get_or runs 0 d).count ≤ 65535) → parts 65535 runs ≡ runs
parts_dense [] d h one = refl
parts_dense (r ∷ []) d h one = parts_short 65535 (r ∷ []) (one refl, tt)
parts_dense (r ∷ next ∷ rs) d h one =
    let behind = all_map {P = λ (x : Run). end_of r ≤ x.page} {Q = λ (x : Run). 1 ≤ x.page} (λ x le. omega (arith, le, h.0.some)) (next ∷ rs) (behind_first r (next ∷ rs) h) in
    let first : r.count ≤ 65535 = omega (arith, h.1.behind, h.2.0.some, h.2.0.ends) in
    parts_short 65535 (r ∷ next ∷ rs) (first, later_short (next ∷ rs) h.2 behind)

pub first_is_run : (runs : List Run) (d : Run) → AreRuns runs → length runs ≡ 1 → IsRun (get_or runs 0 d)
first_is_run [] d h one = absurd (omega (arith, one))
first_is_run (r ∷ rs) d h one = h.0

pub only_parts : (runs : List Run) (d : Run) → length runs ≡ 1 → parts 65535 (get_or runs 0 d ∷ []) ≡ parts 65535 runs
only_parts [] d one = absurd (omega (arith, one))
only_parts (r ∷ []) d one = refl
only_parts (r ∷ next ∷ rs) d one = absurd (omega (arith, one))

-- ** Rows in an array

module _ {X : Type 0} (row : Run → X) (none : X) where
  -- the rows of the first runs, and one more
  pub filled_more : (n i : ℕ) (runs : List Run) (d : Run) (rows : List X) → i < length runs → length runs ≤ n
      → rows ≡ map row (take i runs) ++ replicate (n - i) none
      → set rows i (row (get_or runs i d)) ≡ map row (take (i + 1) runs) ++ replicate (n - (i + 1)) none
  filled_more n i runs d rows lt le is =
      let more : n - i ≡ suc (n - (i + 1)) = omega (arith, lt, le) in
      let here : length (map row (take i runs)) ≡ i = length-map (take i runs) row ∙ length-take-le i runs (omega (arith, lt)) in
      let all : rows ≡ map row (take i runs) ++ none ∷ replicate (n - (i + 1)) none = is ∙ ap (λ k. map row (take i runs) ++ replicate k none) more in
      ap (λ l. set l i (row (get_or runs i d))) all ∙ set_at (map row (take i runs)) none (replicate (n - (i + 1)) none) (row (get_or runs i d)) i here
      ∙ sym (ap (λ l. l ++ replicate (n - (i + 1)) none) (map_more row runs i d lt) ∙ append_mid (map row (take i runs)) (row (get_or runs i d)) (replicate (n - (i + 1)) none))
    where
      append_mid : (xs : List X) (y : X) (ys : List X) → (xs ++ y ∷ []) ++ ys ≡ xs ++ y ∷ ys
      append_mid [] y ys = refl
      append_mid (x ∷ xs) y ys = ap (λ l. x ∷ l) (append_mid xs y ys)

  pub length_filled : (n : ℕ) (runs : List Run) → length runs ≤ n → length (filled row none n runs) ≡ n
  length_filled n runs le = omega (arith, le, length-append (map row runs) (replicate (n - length runs) none), length-map runs row, length-replicate (n - length runs) none)

-- ** Rows of extents

plain_volume : (kind : ℕ) (home : _) → Suits kind (At home) → OnVolume (place.At home)
plain_volume kind home h = h.1

pub record IsExtentOf (from : ℕ) (run : Run) : Type 0 where
  pub extent : IsExtent from (extent_of run)
  pub end : (extent_of run).page + (extent_of run).count ≡ end_of run
  pub count : (extent_of run).count ≡ run.count
  pub narrow : (extent_of run).vol < 2 ^ 8
  pub run_at : runs_at (extent_of run) ≡ run ∷ []

some_at : (e : ExtentField) → 1 ≤ e.count → runs_at e ≡ (record { page = e.page; count = e.count; first = place.At (record { vol = e.vol; page = e.first }) }) ∷ []
some_at e some = let not_none : eqb e.count 0 ≡ false = grind arith in rw not_none refl

extent_is : (kind from : ℕ) → is_of_holes kind ≡ false → (page count : ℕ) (first : RunPlace) → IsRow kind from (record { page = page; count = count; first = first })
    → IsExtentOf from (record { page = page; count = count; first = first })
extent_is kind from plain page count (place.At home) h = record {
  extent = record {
    run = record { begins = h.begins; some = h.is_run.some; ends = h.is_run.ends };
    volume = omega (arith, h.suits.1.1);
    first = omega (arith, h.is_run.some, h.is_run.homes);
  };
  end = refl;
  count = refl;
  narrow = omega (arith, h.suits.1.1);
  run_at = some_at (record { page = page; count = count; vol = home.vol; first = home.page }) h.is_run.some;
}
extent_is kind from plain page count place.Holes h = absurd (let holes = h.suits in cc)

row_is : (kind from : ℕ) (run : Run) → is_of_holes kind ≡ false → IsRow kind from run → IsExtentOf from run
row_is kind from run plain h = extent_is kind from plain run.page run.count run.first h

none_in : (n : ℕ) → flat_map runs_at (replicate n no_extent) ≡ []
none_in zero = refl
none_in (suc n) = none_in n

none_all : (n : ℕ) → AllByRecursion NoExtent (replicate n no_extent)
none_all zero = tt
none_all (suc n) = (record { page = refl; count = refl; volume = refl; first = refl }, none_all n)

extents_said : (kind from n : ℕ) (rows : List Run) → is_of_holes kind ≡ false → AreRowsFrom kind from rows → flat_map runs_at (map extent_of rows ++ replicate n no_extent) ≡ rows
extents_said kind from n [] plain h = none_in n
extents_said kind from n (r ∷ rs) plain h =
    ap (λ l. l ++ flat_map runs_at (map extent_of rs ++ replicate n no_extent)) (row_is kind from r plain h.0).run_at
    ∙ ap (λ l. r ∷ l) (extents_said kind (end_of r) n rs plain h.1)

are_none : (from n : ℕ) → AreExtents from (replicate n no_extent)
are_none from zero = tt
are_none from (suc n) = inr (none_all (suc n))

are_extents : (kind from n : ℕ) (rows : List Run) → is_of_holes kind ≡ false → AreRowsFrom kind from rows → AreExtents from (map extent_of rows ++ replicate n no_extent)
are_extents kind from n [] plain h = are_none from n
are_extents kind from n (r ∷ rs) plain h =
    let is = row_is kind from r plain h.0 in
    inl (is.extent, subst (λ k. AreExtents k (map extent_of rs ++ replicate n no_extent)) (sym is.end) (are_extents kind (end_of r) n rs plain h.1))

few_none : (n : ℕ) → AllByRecursion (λ (e : ExtentField). (e.count < 2 ^ 16) × (e.vol < 2 ^ 8)) (replicate n no_extent)
few_none zero = tt
few_none (suc n) = ((omega arith, omega arith), few_none n)

are_short : (kind from n : ℕ) (rows : List Run) → is_of_holes kind ≡ false → most_pages kind ≡ 65535 → AreRowsFrom kind from rows
    → AllByRecursion (λ (e : ExtentField). (e.count < 2 ^ 16) × (e.vol < 2 ^ 8)) (map extent_of rows ++ replicate n no_extent)
are_short kind from n [] plain dense h = few_none n
are_short kind from n (r ∷ rs) plain dense h =
    let is = row_is kind from r plain h.0 in
    ((omega (arith, is.count, h.0.short, dense), is.narrow), are_short kind (end_of r) n rs plain dense h.1)

pub extents_are : (rows : List Run) → AreRowsFrom 3 0 rows → length rows ≤ 16 → HasRows 3 rows (Extents (filled extent_of no_extent 16 rows))
unfolding Allowed
extents_are rows h le = record {
  of_kind = refl;
  allowed = (length_filled extent_of no_extent 16 rows le, are_extents 3 0 (16 - length rows) rows refl h);
  says = extents_said 3 0 (16 - length rows) rows refl h;
}

pub short_extents_are : (rows : List Run) → AreRowsFrom 4 0 rows → length rows ≤ 4 → HasRows 4 rows (ShortExtents (filled extent_of no_extent 4 rows))
unfolding Allowed
short_extents_are rows h le = record {
  of_kind = refl;
  allowed = (length_filled extent_of no_extent 4 rows le, are_extents 4 0 (4 - length rows) rows refl h);
  says = extents_said 4 0 (4 - length rows) rows refl h;
}

pub dense_extents_are : (rows : List Run) → AreRowsFrom 13 0 rows → length rows ≤ 22 → HasRows 13 rows (DenseExtents (filled extent_of no_extent 22 rows))
unfolding Allowed
dense_extents_are rows h le = record {
  of_kind = refl;
  allowed = (length_filled extent_of no_extent 22 rows le, (are_extents 13 0 (22 - length rows) rows refl h, are_short 13 0 (22 - length rows) rows refl refl h));
  says = extents_said 13 0 (22 - length rows) rows refl h;
}

pub short_dense_are : (rows : List Run) → AreRowsFrom 14 0 rows → length rows ≤ 4 → HasRows 14 rows (ShortDense (filled extent_of no_extent 4 rows))
unfolding Allowed
short_dense_are rows h le = record {
  of_kind = refl;
  allowed = (length_filled extent_of no_extent 4 rows le, (are_extents 14 0 (4 - length rows) rows refl h, are_short 14 0 (4 - length rows) rows refl refl h));
  says = extents_said 14 0 (4 - length rows) rows refl h;
}

-- ** Rows of holes

hole_is : (kind from : ℕ) → is_of_holes kind ≡ true → (page count : ℕ) (first : RunPlace) → IsRow kind from (record { page = page; count = count; first = first })
    → holes_at (record { page = page; count = count }) ≡ (record { page = page; count = count; first = first }) ∷ []
hole_is kind from holes page count (place.At home) h = absurd (let plain = h.suits.0 in cc)
hole_is kind from holes page count place.Holes h = let not_none : eqb count 0 ≡ false = grind (arith, h.is_run.some) in rw not_none refl

no_holes_in : (n : ℕ) → flat_map holes_at (replicate n no_hole) ≡ []
no_holes_in zero = refl
no_holes_in (suc n) = no_holes_in n

no_holes : (n : ℕ) → AllByRecursion NoHole (replicate n no_hole)
no_holes zero = tt
no_holes (suc n) = (record { page = refl; count = refl }, no_holes n)

holes_said : (kind from n : ℕ) (rows : List Run) → is_of_holes kind ≡ true → AreRowsFrom kind from rows → flat_map holes_at (map hole_of rows ++ replicate n no_hole) ≡ rows
holes_said kind from n [] holes h = no_holes_in n
holes_said kind from n (r ∷ rs) holes h =
    ap (λ l. l ++ flat_map holes_at (map hole_of rs ++ replicate n no_hole)) (hole_is kind from holes r.page r.count r.first h.0)
    ∙ ap (λ l. r ∷ l) (holes_said kind (end_of r) n rs holes h.1)

are_no_holes : (from n : ℕ) → AreHoles from (replicate n no_hole)
are_no_holes from zero = tt
are_no_holes from (suc n) = inr (no_holes (suc n))

are_holes : (kind from n : ℕ) (rows : List Run) → AreRowsFrom kind from rows → AreHoles from (map hole_of rows ++ replicate n no_hole)
are_holes kind from n [] h = are_no_holes from n
are_holes kind from n (r ∷ rs) h =
    inl (record { begins = h.0.begins; some = h.0.is_run.some; ends = h.0.is_run.ends }, are_holes kind (end_of r) n rs h.1)

pub holes_are : (rows : List Run) → AreRowsFrom 5 0 rows → length rows ≤ 16 → HasRows 5 rows (Holes (filled hole_of no_hole 16 rows))
unfolding Allowed
holes_are rows h le = record {
  of_kind = refl;
  allowed = (length_filled hole_of no_hole 16 rows le, are_holes 5 0 (16 - length rows) rows h);
  says = holes_said 5 0 (16 - length rows) rows refl h;
}

-- ** Records of no rows

pub no_short_extents : Allowed (ShortExtents (replicate 4 no_extent))
no_short_extents = (short_extents_are [] tt (omega arith)).allowed

pub no_extents : Allowed (Extents (replicate 16 no_extent))
no_extents = (extents_are [] tt (omega arith)).allowed

pub no_dense_extents : Allowed (DenseExtents (replicate 22 no_extent))
no_dense_extents = (dense_extents_are [] tt (omega arith)).allowed

pub no_short_dense : Allowed (ShortDense (replicate 4 no_extent))
no_short_dense = (short_dense_are [] tt (omega arith)).allowed

pub no_hole_rows : Allowed (Holes (replicate 16 no_hole))
no_hole_rows = (holes_are [] tt (omega arith)).allowed
