-- The rows of a record that the format allows, and what a record says that is written.
use Rattle.std.proofs.Common.{◌≡◌, ℕ, suc, ◌+◌, ◌-◌, ◌<◌, ◌≤◌, ◌^◌, Bool, true, false, cond, ltb, leb, eqb, List, [], ◌∷◌, ◌++◌, length, map, refl, sym, ap, subst, ◌∙◌, inl, inr, arith}
use Rattle.std.specs.Prelude.{IsSome}
use Rattle.std.specs.List.{flat_map, AllByRecursion}
use Rattle.std.proofs.lemmas.Bool.{cases_Bool, leb-false, ltb-true, ltb-false}
use Rattle.extent_maps.specs.declared.run.Run.{Run}
use Rattle.extent_maps.specs.declared.run.RunPlace.{RunPlace}
use Rattle.extent_maps.specs.declared.run.RunPlace.TheVariants as place
use Rattle.extent_maps.specs.declared.run.PagePlace.{PagePlace}
use Rattle.extent_maps.specs.declared.run.PagePlace.TheVariants.{At, Hole, Absent}
use Rattle.extent_maps.specs.Runs.{AreRuns, ChangesPlace, Places, SamePlaces, behind, covers, end_of, home_at, place_of, placed}
use Rattle.extent_maps.proofs.RunLemmas.{covers_not_before, covers_not_behind}
use Rattle.cell_records.specs.declared.record.Record.{Record}
use Rattle.cell_records.specs.declared.record.Record.TheVariants.{Extents, ShortExtents, Holes, DenseExtents, ShortDense}
use Rattle.cell_records.specs.declared.record.ExtentField.{ExtentField}
use Rattle.cell_records.specs.declared.record.HoleField.{HoleField}
use Rattle.cell_records.specs.Records.{Allowed, AreExtents, AreHoles, NoExtent, NoHole, kind_of}
use Rattle.extent_records.specs.Rows.{IsPlaced, NoPageTwice, OnVolume, holes_at, run_of, runs_at, runs_in, times}
use Rattle.extent_records.specs.Writing.{AllSuit, AreRowsFrom, HasRows, IsLeastRecord, IsMapRecord, Rewrites, SaysPlaces, Suits, is_of_holes, most_pages, most_rows, parts, places_before, places_in, rows_for}
use Rattle.extent_records.proofs.FewestLemmas.{RisingFrom, fewest, place_not_behind, place_start, absent_in_front, split_places}
use Rattle.extent_records.proofs.WritingLemmas.{rows_of_runs, suits_behind}

-- ** The rows of a record that is allowed

run_there : (e : ExtentField) → 1 ≤ e.count → runs_at e ≡ run_of e ∷ []
run_there e some = let not_none : eqb e.count 0 ≡ false = grind arith in rw not_none refl

run_not_there : (e : ExtentField) → e.count ≡ 0 → runs_at e ≡ []
run_not_there e none = rw none refl

hole_there : (e : HoleField) → 1 ≤ e.count → holes_at e ≡ (record { page = e.page; count = e.count; first = place.Holes }) ∷ []
hole_there e some = let not_none : eqb e.count 0 ≡ false = grind arith in rw not_none refl

hole_not_there : (e : HoleField) → e.count ≡ 0 → holes_at e ≡ []
hole_not_there e none = rw none refl

none_said : (es : List ExtentField) → AllByRecursion NoExtent es → flat_map runs_at es ≡ []
none_said [] h = refl
none_said (e ∷ es) h = rw (run_not_there e h.0.count) (none_said es h.1)

no_hole_said : (es : List HoleField) → AllByRecursion NoHole es → flat_map holes_at es ≡ []
no_hole_said [] h = refl
no_hole_said (e ∷ es) h = rw (hole_not_there e h.0.count) (no_hole_said es h.1)

-- rows that rise, and no more than this number of them
pub record Few (most from n : ℕ) (runs : List Run) : Type 0 where
  pub rising : RisingFrom most from runs
  pub few : length runs ≤ n

few_none : (most from n : ℕ) (runs : List Run) → runs ≡ [] → Few most from n runs
few_none most from n runs e = subst (Few most from n) (sym e) (record { rising = tt; few = omega arith })

few_more : (most from n page count : ℕ) (first : RunPlace) (runs : List Run) → from ≤ page → 1 ≤ count → count ≤ most → Few most (page + count) n runs
    → Few most from (suc n) ((record { page = page; count = count; first = first }) ∷ runs)
few_more most from n page count first runs le some short h = record { rising = (le, some, short, h.rising); few = omega (arith, h.few) }

few_extents : (most from : ℕ) (es : List ExtentField) → AreExtents from es → AllByRecursion (λ (e : ExtentField). 1 ≤ e.count → e.count ≤ most) es → Few most from (length es) (flat_map runs_at es)
few_extents most from [] h s = record { rising = tt; few = omega arith }
few_extents most from (e ∷ es) (inl h) s =
    subst (λ l. Few most from (suc (length es)) (l ++ flat_map runs_at es)) (sym (run_there e h.0.run.some))
    (few_more most from (length es) e.page e.count (place.At (record { vol = e.vol; page = e.first })) (flat_map runs_at es) h.0.run.begins h.0.run.some (s.0 h.0.run.some) (few_extents most (e.page + e.count) es h.1 s.1))
few_extents most from (e ∷ es) (inr h) s = few_none most from (suc (length es)) (flat_map runs_at (e ∷ es)) (none_said (e ∷ es) h)

few_holes : (from : ℕ) (es : List HoleField) → AreHoles from es → Few 65536 from (length es) (flat_map holes_at es)
few_holes from [] h = record { rising = tt; few = omega arith }
few_holes from (e ∷ es) (inl h) =
    let short : e.count ≤ 65536 = omega (arith, h.0.ends) in
    subst (λ l. Few 65536 from (suc (length es)) (l ++ flat_map holes_at es)) (sym (hole_there e h.0.some))
    (few_more 65536 from (length es) e.page e.count place.Holes (flat_map holes_at es) h.0.begins h.0.some short (few_holes (e.page + e.count) es h.1))
few_holes from (e ∷ es) (inr h) = few_none 65536 from (suc (length es)) (flat_map holes_at (e ∷ es)) (no_hole_said (e ∷ es) h)

ends_in : (from : ℕ) (es : List ExtentField) → AreExtents from es → AllByRecursion (λ (e : ExtentField). 1 ≤ e.count → e.count ≤ 65536) es
ends_in from [] h = tt
ends_in from (e ∷ es) (inl h) = (λ some. omega (arith, h.0.run.ends), ends_in (e.page + e.count) es h.1)
ends_in from (e ∷ es) (inr h) = (λ some. omega (arith, some, h.0.count), all_none es h.1)
  where
    all_none : (es : List ExtentField) → AllByRecursion NoExtent es → AllByRecursion (λ (e : ExtentField). 1 ≤ e.count → e.count ≤ 65536) es
    all_none [] h = tt
    all_none (e ∷ es) h = (λ some. omega (arith, some, h.0.count), all_none es h.1)

short_in : (es : List ExtentField) → AllByRecursion (λ (e : ExtentField). (e.count < 2 ^ 16) × (e.vol < 2 ^ 8)) es → AllByRecursion (λ (e : ExtentField). 1 ≤ e.count → e.count ≤ 65535) es
short_in [] h = tt
short_in (e ∷ es) h = (λ some. omega (arith, h.0.0), short_in es h.1)

few_as : (most from n m : ℕ) (runs : List Run) → n ≡ m → Few most from n runs → Few most from m runs
few_as most from n m runs e h = record { rising = h.rising; few = omega (arith, h.few, e) }

pub allowed_few : (r : Record) → Allowed r → Few (most_pages (kind_of r)) 0 (most_rows (kind_of r)) (runs_in r)
unfolding Allowed
allowed_few (Extents rows) h = few_as 65536 0 (length rows) 16 (flat_map runs_at rows) h.0 (few_extents 65536 0 rows h.1 (ends_in 0 rows h.1))
allowed_few (ShortExtents rows) h = few_as 65536 0 (length rows) 4 (flat_map runs_at rows) h.0 (few_extents 65536 0 rows h.1 (ends_in 0 rows h.1))
allowed_few (DenseExtents rows) h = few_as 65535 0 (length rows) 22 (flat_map runs_at rows) h.0 (few_extents 65535 0 rows h.1.0 (short_in rows h.1.1))
allowed_few (ShortDense rows) h = few_as 65535 0 (length rows) 4 (flat_map runs_at rows) h.0 (few_extents 65535 0 rows h.1.0 (short_in rows h.1.1))
allowed_few (Holes rows) h = few_as 65536 0 (length rows) 16 (flat_map holes_at rows) h.0 (few_holes 0 rows h.1)
allowed_few _ h = record { rising = tt; few = omega arith }

-- rows that say the runs are no fewer than theirs
pub said_by_more : (kind : ℕ) (runs : List Run) (places : Places) (r : Record) → AreRuns runs → ((p : ℕ) → place_of runs p ≡ places p) → SaysPlaces kind places r
    → (length (rows_for kind runs) ≤ length (runs_in r)) × (length (runs_in r) ≤ most_rows kind)
said_by_more kind runs places r h is says =
    let few : Few (most_pages kind) 0 (most_rows kind) (runs_in r) = subst (λ k. Few (most_pages k) 0 (most_rows k) (runs_in r)) says.of_kind (allowed_few r says.allowed) in
    (fewest (most_pages kind) (runs_in r) runs 0 h few.rising (λ p. is p ∙ sym (says.same p)), few.few)

-- ** Which pages may stand in which record

suits_place : (kind : ℕ) (runs : List Run) (p : ℕ) → AllSuit kind runs → Suits kind (place_of runs p)
suits_place kind [] p h = tt
suits_place kind (r ∷ rs) p h = elim (cases_Bool (covers r p)) [
  | inl has ↦ rw has (suits_behind kind (p - r.page) r.first h.0)
  | inr lacks ↦ rw lacks (suits_place kind rs p h.1)
]

pub suits_runs : (kind : ℕ) (runs : List Run) → AreRuns runs → ((p : ℕ) → Suits kind (place_of runs p)) → AllSuit kind runs
suits_runs kind [] h s = tt
suits_runs kind (r ∷ rs) h s = (subst (Suits kind) (place_start r rs h.0.some) (s r.page), suits_runs kind rs h.2 (λ p. tail p (ltb p (end_of r)) refl))
  where
    tail : (p : ℕ) (b : Bool) → ltb p (end_of r) ≡ b → Suits kind (place_of rs p)
    tail p true e = subst (Suits kind) (sym (absent_in_front r rs p h (ltb-true p (end_of r) e))) tt
    tail p false e = subst (Suits kind) (place_not_behind r rs p (ltb-false p (end_of r) e)) (s p)

extents_suit : (kind : ℕ) (es : List ExtentField) → is_of_holes kind ≡ false → AllByRecursion IsPlaced (flat_map runs_at es) → AllSuit kind (flat_map runs_at es)
extents_suit kind [] plain h = tt
extents_suit kind (e ∷ es) plain h = go (eqb e.count 0) refl (extents_suit kind es plain)
  where
    go : (b : Bool) → eqb e.count 0 ≡ b → (AllByRecursion IsPlaced (flat_map runs_at es) → AllSuit kind (flat_map runs_at es)) → AllSuit kind (flat_map runs_at (e ∷ es))
    go true z tail = rw z (tail (subst (λ b. AllByRecursion IsPlaced (cond b [] (run_of e ∷ []) ++ flat_map runs_at es)) z h))
    go false z tail =
        let all : AllByRecursion IsPlaced (run_of e ∷ flat_map runs_at es) = subst (λ b. AllByRecursion IsPlaced (cond b [] (run_of e ∷ []) ++ flat_map runs_at es)) z h in
        rw z ((plain, all.0.volume), tail all.1)

holes_suit : (es : List HoleField) → AllSuit 5 (flat_map holes_at es)
holes_suit [] = tt
holes_suit (e ∷ es) = elim (cases_Bool (eqb e.count 0)) [
  | inl none ↦ rw none (holes_suit es)
  | inr some ↦ rw some (refl, holes_suit es)
]

pub rows_suit : (r : Record) → AllByRecursion IsPlaced (runs_in r) → AllSuit (kind_of r) (runs_in r)
rows_suit (Extents rows) h = extents_suit 3 rows refl h
rows_suit (ShortExtents rows) h = extents_suit 4 rows refl h
rows_suit (DenseExtents rows) h = extents_suit 13 rows refl h
rows_suit (ShortDense rows) h = extents_suit 14 rows refl h
rows_suit (Holes rows) h = holes_suit rows
rows_suit _ h = tt

pub suits_record : (r : Record) (p : ℕ) → IsMapRecord r → Suits (kind_of r) (places_in r p)
suits_record r p h = suits_place (kind_of r) (runs_in r) p (rows_suit r h.placed)

-- ** What rows say

pub parts_places : (most : ℕ) (runs : List Run) → SamePlaces runs (parts most runs)
parts_places most [] p = refl
parts_places most (r ∷ rs) p = go (leb r.count most) refl (ap (cond (covers r p) (placed (behind (p - r.page) r.first))) (parts_places most rs p))
  where
    go : (b : Bool) → leb r.count most ≡ b → place_of (r ∷ parts most rs) p ≡ place_of (r ∷ rs) p → place_of (parts most (r ∷ rs)) p ≡ place_of (r ∷ rs) p
    go true e tail = rw e tail
    go false e tail = rw e (sym (split_places most r (parts most rs) (let lt = leb-false r.count most e in omega (arith, lt)) p) ∙ tail)

on_volume : (kind : ℕ) (x : RunPlace) → Suits kind (placed x) → OnVolume x
on_volume kind (place.At home) h = h.1
on_volume kind place.Holes h = tt

pub rows_placed : (kind from : ℕ) (rows : List Run) → AreRowsFrom kind from rows → AllByRecursion IsPlaced rows
rows_placed kind from [] h = tt
rows_placed kind from (r ∷ rs) h = (record { is_run = h.0.is_run; volume = on_volume kind r.first h.0.suits }, rows_placed kind (end_of r) rs h.1)

no_times : (kind from : ℕ) (rows : List Run) (p : ℕ) → AreRowsFrom kind from rows → p < from → times rows p ≡ 0
no_times kind from [] p h lt = refl
no_times kind from (r ∷ rs) p h lt =
    let before : p < r.page = omega (arith, lt, h.0.begins) in
    let tail = no_times kind (end_of r) rs p h.1 (omega (arith, before)) in
    rw (covers_not_before r p before) (omega (arith, tail))

pub rows_once : (kind from : ℕ) (rows : List Run) → AreRowsFrom kind from rows → NoPageTwice rows
rows_once kind from [] h p = omega arith
rows_once kind from (r ∷ rs) h p = go (ltb p (end_of r)) refl (rows_once kind (end_of r) rs h.1 p)
  where
    at_most_one : (b : Bool) → cond b 1 0 ≤ 1
    at_most_one true = omega arith
    at_most_one false = omega arith

    go : (b : Bool) → ltb p (end_of r) ≡ b → times rs p ≤ 1 → times (r ∷ rs) p ≤ 1
    go true e tail = omega (arith, no_times kind (end_of r) rs p h.1 (ltb-true p (end_of r) e), at_most_one (covers r p))
    go false e tail = rw (covers_not_behind r p (ltb-false p (end_of r) e)) (omega (arith, tail))

-- ** A record that was written, or that has too few rows

pub map_of_rows : (kind : ℕ) (rows : List Run) (r : Record) → 1 ≤ most_rows kind → AreRowsFrom kind 0 rows → HasRows kind rows r → IsMapRecord r
map_of_rows kind rows r some are has = record {
  has_rows = subst (λ k. 1 ≤ most_rows k) (sym has.of_kind) some;
  allowed = has.allowed;
  placed = subst (AllByRecursion IsPlaced) (sym has.says) (rows_placed kind 0 rows are);
  once = subst NoPageTwice (sym has.says) (rows_once kind 0 rows are);
}

pub written : (runs : List Run) (old new : Record) → AreRuns runs → AllSuit (kind_of old) runs → IsMapRecord old
    → HasRows (kind_of old) (rows_for (kind_of old) runs) new → Rewrites (place_of runs) old new true
written runs old new h suits before has = record {
  fits = (λ t. (new, says), λ c. refl);
  written = λ t. record {
    is_map = is_map;
    says = says;
    least = λ other more. let least = (said_by_more (kind_of old) runs (place_of runs) other h (λ p. refl) more).0 in omega (arith, least, ap length has.says);
  };
  kept = λ f. absurd cc;
  is_map = is_map;
  same_kind = has.of_kind;
}
  where
    rows : List Run
    rows = rows_for (kind_of old) runs

    are : AreRowsFrom (kind_of old) 0 rows
    are = rows_of_runs (kind_of old) runs h suits

    is_map : IsMapRecord new
    is_map = map_of_rows (kind_of old) rows new before.has_rows are has

    says : SaysPlaces (kind_of old) (place_of runs) new
    says = record {
      of_kind = has.of_kind;
      allowed = has.allowed;
      same = λ p. ap (λ l. place_of l p) has.says ∙ parts_places (most_pages (kind_of old)) runs p;
    }

pub refused : (runs : List Run) (old : Record) → AreRuns runs → IsMapRecord old → most_rows (kind_of old) < length (rows_for (kind_of old) runs) → Rewrites (place_of runs) old old false
refused runs old h before more = record {
  fits = (
    λ t. absurd cc,
    λ can. let said = said_by_more (kind_of old) runs (place_of runs) can.0 h (λ p. refl) can.1 in absurd (omega (arith, said.0, said.1, more)),
  );
  written = λ t. absurd cc;
  kept = λ f. refl;
  is_map = before;
  same_kind = refl;
}

-- the same of places that are equal
pub says_same : (kind : ℕ) (a b : Places) (r : Record) → ((p : ℕ) → a p ≡ b p) → SaysPlaces kind a r → SaysPlaces kind b r
says_same kind a b r same says = record { of_kind = says.of_kind; allowed = says.allowed; same = λ p. says.same p ∙ same p }

pub least_same : (kind : ℕ) (a b : Places) (r : Record) → ((p : ℕ) → a p ≡ b p) → IsLeastRecord kind a r → IsLeastRecord kind b r
least_same kind a b r same h = record {
  is_map = h.is_map;
  says = says_same kind a b r same h.says;
  least = λ other more. h.least other (says_same kind b a other (λ p. sym (same p)) more);
}

pub rewrites_same : (a b : Places) (old new : Record) (done : Bool) → ((p : ℕ) → a p ≡ b p) → Rewrites a old new done → Rewrites b old new done
rewrites_same a b old new done same h = record {
  fits = (
    λ t. let can = h.fits.0 t in (can.0, says_same (kind_of old) a b can.0 same can.1),
    λ can. h.fits.1 (can.0, says_same (kind_of old) b a can.0 (λ p. sym (same p)) can.1),
  );
  written = λ t. least_same (kind_of old) a b new same (h.written t);
  kept = h.kept;
  is_map = h.is_map;
  same_kind = h.same_kind;
}

-- ** The places of a map that was changed

-- the map of a record
pub suits_map : (r : Record) (map : List Run) (p : ℕ) → IsMapRecord r → SamePlaces (runs_in r) map → Suits (kind_of r) (place_of map p)
suits_map r map p h same = subst (Suits (kind_of r)) (sym (same p)) (suits_record r p h)

-- with a page at another place that suits
pub suits_changed : (r : Record) (map new : List Run) (page : ℕ) (x : PagePlace) → IsMapRecord r → SamePlaces (runs_in r) map → ChangesPlace page x map new → Suits (kind_of r) x
    → (p : ℕ) → Suits (kind_of r) (place_of new p)
suits_changed r map new page x h same change suits p = subst (Suits (kind_of r)) (sym (change p)) (go (eqb p page))
  where
    go : (b : Bool) → Suits (kind_of r) (cond b x (place_of map p))
    go true = suits
    go false = suits_map r map p h same

-- a record with a home is one of extents
pub has_home : (kind : ℕ) (x : PagePlace) → Suits kind x → IsSome (home_at x) → is_of_holes kind ≡ false
has_home kind Absent h some = absurd cc
has_home kind (At home) h some = h.0
has_home kind Hole h some = absurd cc

-- without the pages from one on
pub suits_front : (r : Record) (map front : List Run) (from : ℕ) → IsMapRecord r → SamePlaces (runs_in r) map → ((p : ℕ) → place_of front p ≡ places_before from (place_of map) p)
    → (p : ℕ) → Suits (kind_of r) (place_of front p)
suits_front r map front from h same cut p = subst (Suits (kind_of r)) (sym (cut p)) (go (ltb p from))
  where
    go : (b : Bool) → Suits (kind_of r) (cond b (place_of map p) Absent)
    go true = suits_map r map p h same
    go false = tt
