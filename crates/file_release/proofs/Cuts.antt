-- What a chain says of pages once a record of it is cut, or gone.
use Rattle.std.proofs.Common.{◌≡◌, ◌∙◌, ℕ, ◌+◌, ◌<◌, ◌≤◌, Bool, true, false, cond, nat_lt, List, [], ◌∷◌, ◌++◌, refl, sym, ap, subst, arith, append_assoc, ⊎_elim, ◌⊎◌, inl, inr}
use Rattle.std.proofs.lemmas.Bool.{cases_Bool, lt-ltb, ltb-true}
use Rattle.std.proofs.lemmas.Grind.{flat_map-append}
use Rattle.std.proofs.lemmas.List.{append-nil}
use Rattle.std.specs.List.{AllByRecursion}
use Rattle.fileset_files.specs.cell_records.declared.record.Record.{Record}
use Rattle.fileset_files.specs.metadata_cells.Cell.{Cell}
use Rattle.fileset_files.specs.metadata_cells.Chain.{PlacedCell, records_of}
use Rattle.fileset_files.specs.extent_maps.declared.run.PagePlace.{PagePlace}
use Rattle.fileset_files.specs.extent_maps.declared.run.PagePlace.TheVariants.{Absent, At, Hole}
use Rattle.fileset_files.specs.extent_maps.declared.run.Run.{Run}
use Rattle.fileset_files.specs.extent_maps.Runs.{place_of}
use Rattle.fileset_files.proofs.OfExtentMaps.EditLemmas.{over, place_append}
use Rattle.fileset_files.specs.extent_records.Rows.{AreOneMap, IsPlaced, NoPageTwice, runs_in, runs_of, there, times}
use Rattle.fileset_files.specs.extent_records.Writing.{places_before, places_in}
use Rattle.fileset_files.proofs.OfExtentRecords.ChainLemmas.{moves, once_after, stays, there_few}
use Rattle.fileset_files.specs.file_chains.Files.{HasMap, places_of}
use Rattle.fileset_files.proofs.OfFileChains.MapRecords.{runs_by_map}
use Rattle.file_release.specs.Steps.{IsCut}

-- ---- the runs around a cell

abbrev pub runs_at : List PlacedCell → List Run
runs_at cells = runs_of (records_of cells)

pub runs_append : (xs ys : List PlacedCell) → runs_at (xs ++ ys) ≡ runs_at xs ++ runs_at ys
runs_append xs ys = ap runs_of (flat_map-append (λ (c : PlacedCell). c.cell.records) xs ys) ∙ flat_map-append runs_in (records_of xs) (records_of ys)

pub cell_runs : (cell : Cell) (value : Record) → HasMap cell value → runs_of cell.records ≡ runs_in value
cell_runs cell value has = runs_by_map cell.records ∙ ap runs_of has.only ∙ append-nil (runs_in value)

pub runs_around : (front : List PlacedCell) (c : PlacedCell) (rest : List PlacedCell) (value : Record) → HasMap c.cell value → runs_at (front ++ c ∷ rest) ≡ runs_at front ++ (runs_in value ++ runs_at rest)
runs_around front c rest value has =
    runs_append front (c ∷ rest)
    ∙ ap (λ rs. runs_at front ++ rs) (flat_map-append runs_in c.cell.records (records_of rest) ∙ ap (λ rs. rs ++ runs_at rest) (cell_runs c.cell value has))

-- ---- the places then

none_there : (x : PagePlace) → there x ≡ 0 → x ≡ Absent
none_there Absent e = refl
none_there (At home) e = absurd (omega (arith, e))
none_there Hole e = absurd (omega (arith, e))

some_there : (x : PagePlace) → (x ≡ Absent → ⊥) → there x ≡ 1
some_there Absent some = absurd (some refl)
some_there (At home) some = refl
some_there Hole some = refl

over_some : (x y : PagePlace) → (x ≡ Absent → ⊥) → over x y ≡ x
over_some Absent y some = absurd (some refl)
over_some (At home) y some = refl
over_some Hole y some = refl

-- a page that a record has is nowhere before it
pub shown_runs : (front old back : List Run) → NoPageTwice (front ++ (old ++ back)) → (p : ℕ) → (place_of old p ≡ Absent → ⊥) → place_of (front ++ (old ++ back)) p ≡ place_of old p
shown_runs front old back few p some =
    place_append front (old ++ back) p ∙ ap (over (place_of front p)) (place_append old back p) ∙ ap (λ x. over x (over (place_of old p) (place_of back p))) none ∙ over_some (place_of old p) (place_of back p) some
  where
    times_append : (xs ys : List Run) (p : ℕ) → times (xs ++ ys) p ≡ times xs p + times ys p
    times_append [] ys p = omega arith
    times_append (x ∷ xs) ys p = omega (arith, times_append xs ys p)

    none : place_of front p ≡ Absent
    none = none_there (place_of front p) (omega (
      arith,
      few p,
      times_append front (old ++ back) p,
      times_append old back p,
      there_few front p,
      there_few old p,
      some_there (place_of old p) some,
    ))

-- a chain that has let go of the pages of one record from one on
pub record Cuts (from : ℕ) (value : Record) (chain after : List PlacedCell) : Type 0 where
  pub one_map : AreOneMap (records_of after)
  pub same : (p : ℕ) → (p < from) ⊎ (places_in value p ≡ Absent) → places_of after p ≡ places_of chain p
  pub gone : (p : ℕ) → from ≤ p → (places_in value p ≡ Absent → ⊥) → places_of after p ≡ Absent
  pub shown : (p : ℕ) → (places_in value p ≡ Absent → ⊥) → places_of chain p ≡ places_in value p

-- a page there or not
pub there_or_not : (x : PagePlace) → (x ≡ Absent) ⊎ (x ≡ Absent → ⊥)
there_or_not Absent = inl refl
there_or_not (At home) = inr (λ e. at_not home e)
  where
    at_not : (home : _) → At home ≡ Absent → ⊥
    at_not home e = cc
there_or_not Hole = inr (λ e. hole_not e)
  where
    hole_not : Hole ≡ Absent → ⊥
    hole_not e = cc

all_parts : (P : Run → Type 0) (xs ys : List Run) → AllByRecursion P (xs ++ ys) → AllByRecursion P xs × AllByRecursion P ys
all_parts P [] ys all = (tt, all)
all_parts P (x ∷ xs) ys all = let both = all_parts P xs ys all.1 in ((all.0, both.0), both.1)

all_whole : (P : Run → Type 0) (xs ys : List Run) → AllByRecursion P xs → AllByRecursion P ys → AllByRecursion P (xs ++ ys)
all_whole P [] ys all more = more
all_whole P (x ∷ xs) ys all more = (all.0, all_whole P xs ys all.1 more)

-- with these runs in place of the record's
pub cuts_by : (from : ℕ) (value : Record) (chain after : List PlacedCell) (front new back : List Run) → AreOneMap (records_of chain) → runs_at chain ≡ front ++ (runs_in value ++ back) → runs_at after ≡ front ++ (new ++ back) → AllByRecursion IsPlaced new → NoPageTwice new
    → ((p : ℕ) → place_of new p ≡ places_before from (places_in value) p) → Cuts from value chain after
cuts_by from value chain after front new back one was is placed once at_page = record {
  one_map = record {
    placed = subst (AllByRecursion IsPlaced) (sym is)
        (let a = all_parts IsPlaced front (runs_in value ++ back) (subst (AllByRecursion IsPlaced) was one.placed) in
        all_whole IsPlaced front (new ++ back) a.0 (all_whole IsPlaced new back placed (all_parts IsPlaced (runs_in value) back a.1).1));
    once = subst NoPageTwice (sym is) (λ p. once_after front (runs_in value) new back few once p (decide p));
  };
  same = λ p how. ap (λ rs. place_of rs p) is ∙ stays front (runs_in value) new back few once p (⊎_elim (λ less. before p less) (λ none. kept_absent p none) how) ∙ ap (λ rs. place_of rs p) (sym was);
  gone = λ p behind some. ap (λ rs. place_of rs p) is ∙ moves front (runs_in value) new back few once p (shown_runs front (runs_in value) back few p some) ∙ past p behind;
  shown = λ p some. ap (λ rs. place_of rs p) was ∙ shown_runs front (runs_in value) back few p some;
}
  where
    few : NoPageTwice (front ++ (runs_in value ++ back))
    few = subst NoPageTwice was one.once

    before : (p : ℕ) → p < from → place_of new p ≡ places_in value p
    before p less = at_page p ∙ ap (λ (b : Bool). cond b (places_in value p) Absent) (lt-ltb p from less)

    past : (p : ℕ) → from ≤ p → place_of new p ≡ Absent
    past p behind = at_page p ∙ ap (λ (b : Bool). cond b (places_in value p) Absent)
        (⊎_elim (λ is. absurd (omega (arith, behind, ltb-true p from is))) (λ is. is) (cases_Bool (nat_lt p from)))

    kept_absent : (p : ℕ) → places_in value p ≡ Absent → place_of new p ≡ places_in value p
    kept_absent p none = at_page p ∙ by_less (nat_lt p from) ∙ sym none
      where
        by_less : (b : Bool) → cond b (places_in value p) Absent ≡ Absent
        by_less true = none
        by_less false = refl

    decide : (p : ℕ) → (place_of new p ≡ places_in value p) ⊎ (place_of (front ++ (runs_in value ++ back)) p ≡ places_in value p)
    decide p = ⊎_elim (λ none. inl (kept_absent p none)) (λ some. inr (shown_runs front (runs_in value) back few p some)) (there_or_not (places_in value p))

-- a record is cut
pub cuts_rewritten : (from : ℕ) (front : List PlacedCell) (c d : PlacedCell) (rest : List PlacedCell) (value after : Record) → HasMap c.cell value → HasMap d.cell after → IsCut from value after → AreOneMap (records_of (front ++ c ∷ rest)) → Cuts from value (front ++ c ∷ rest) (front ++ d ∷ rest)
cuts_rewritten from front c d rest value after has has_after cut one =
    cuts_by from value (front ++ c ∷ rest) (front ++ d ∷ rest) (runs_at front) (runs_in after) (runs_at rest) one (runs_around front c rest value has) (runs_around front d rest after has_after) cut.is_map.placed cut.is_map.once cut.at_page

-- a cell goes whose record then has no page
pub cuts_unlinked : (from : ℕ) (front : List PlacedCell) (b b_now c : PlacedCell) (rest : List PlacedCell) (value : Record) → HasMap c.cell value → b_now.cell.records ≡ b.cell.records → ((p : ℕ) → places_before from (places_in value) p ≡ Absent) → AreOneMap (records_of (front ++ b ∷ c ∷ rest))
    → Cuts from value (front ++ b ∷ c ∷ rest) (front ++ b_now ∷ rest)
cuts_unlinked from front b b_now c rest value has same none one =
    cuts_by from value (front ++ b ∷ c ∷ rest) (front ++ b_now ∷ rest) (runs_at (front ++ b ∷ [])) [] (runs_at rest) one was is tt (λ p. omega arith) (λ p. sym (none p))
  where
    was : runs_at (front ++ b ∷ c ∷ rest) ≡ runs_at (front ++ b ∷ []) ++ (runs_in value ++ runs_at rest)
    was = ap runs_at (sym (append_assoc front (b ∷ []) (c ∷ rest))) ∙ runs_around (front ++ b ∷ []) c rest value has

    first_same : runs_at (front ++ b_now ∷ []) ≡ runs_at (front ++ b ∷ [])
    first_same = runs_append front (b_now ∷ []) ∙ ap (λ (rs : List Record). runs_at front ++ runs_of (rs ++ [])) same ∙ sym (runs_append front (b ∷ []))

    is : runs_at (front ++ b_now ∷ rest) ≡ runs_at (front ++ b ∷ []) ++ ([] ++ runs_at rest)
    is = ap runs_at (sym (append_assoc front (b_now ∷ []) rest)) ∙ runs_append (front ++ b_now ∷ []) rest ∙ ap (λ rs. rs ++ runs_at rest) first_same
