-- The runs of a map in two records.
use Rattle.std.proofs.Common.{◌≡◌, ℕ, ◌+◌, ◌-◌, ◌≤◌, Bool, true, false, cond, eqb, ltb, List, [], ◌∷◌, ◌++◌, length, take, drop, IsSome, refl, sym, ap, ◌∙◌, arith}
use Rattle.std.proofs.lemmas.Bool.{ltb-true, ltb-false, true≢false}
use Rattle.std.proofs.lemmas.List.{append-nil, length-drop, take-append-drop, take_all}
use Rattle.cell_records.specs.domain_base.declared.place.Home.{Home}
use Rattle.cell_records.specs.domain_base.declared.version.Version.{Version}
use Rattle.cell_records.specs.domain_base.declared.version.Version.TheVariants.{Three, Four}
use Rattle.extent_maps.specs.declared.run.Run.{Run}
use Rattle.extent_maps.specs.declared.run.PagePlace.{PagePlace}
use Rattle.extent_maps.specs.declared.run.PagePlace.TheVariants.{Absent, At, Hole}
use Rattle.extent_maps.specs.Runs.{AreRuns, Places, SamePlaces, covers, end_of, home_at, place_of, with_place}
use Rattle.extent_maps.proofs.RunLemmas.{covers_not_behind}
use Rattle.extent_maps.proofs.EditLemmas.{drop_runs, over, place_append, take_runs}
use Rattle.cell_records.specs.declared.record.Record.{Record}
use Rattle.cell_records.specs.declared.record.Record.TheVariants.{DenseExtents, Extents, Holes, ShortDense, ShortExtents}
use Rattle.cell_records.specs.Records.{kind_of}
use Rattle.extent_records.specs.Rows.{IsPlaced, NoPageTwice, runs_in, there, times}
use Rattle.extent_records.specs.Chains.{ArePartsFor}
use Rattle.extent_records.specs.Listing.{HoldsRuns}
use Rattle.extent_records.specs.Writing.{IsMapRecord, Suits, chain_kind, is_dense, is_of_holes, most_pages, most_rows, places_in}
use Rattle.extent_records.proofs.FewestLemmas.{absent_in_front}
use Rattle.extent_records.proofs.MovedLemmas.{moved_few}
use Rattle.extent_records.proofs.PutLemmas.{all_append, there_times, times_append}
use Rattle.extent_records.proofs.RecordLemmas.{allowed_few, parts_places}

-- no page is in two runs
absent_times : (runs : List Run) (p : ℕ) → NoPageTwice runs → place_of runs p ≡ Absent → times runs p ≡ 0
absent_times runs p once e = sym (there_times runs p (once p)) ∙ ap there e

pub runs_once : (runs : List Run) → AreRuns runs → NoPageTwice runs
runs_once [] h p = omega arith
runs_once (r ∷ rs) h p = go (ltb p (end_of r)) refl (runs_once rs h.2)
  where
    one : (b : Bool) → cond b 1 0 ≤ 1
    one true = omega arith
    one false = omega arith

    go : (b : Bool) → ltb p (end_of r) ≡ b → NoPageTwice rs → times (r ∷ rs) p ≤ 1
    go true e tail = omega (arith, absent_times rs p tail (absent_in_front r rs p h (ltb-true p (end_of r) e)), one (covers r p))
    go false e tail = rw (covers_not_behind r p (ltb-false p (end_of r) e)) (omega (arith, tail p))

-- the rows of a record that holds runs have each page as often as these
held_places : (kind : ℕ) (runs : List Run) (r : Record) (p : ℕ) → HoldsRuns kind runs r → places_in r p ≡ place_of runs p
held_places kind runs r p holds = ap (λ l. place_of l p) holds.rows ∙ parts_places (most_pages kind) runs p

held_times : (kind : ℕ) (runs : List Run) (r : Record) (p : ℕ) → AreRuns runs → HoldsRuns kind runs r → times (runs_in r) p ≡ times runs p
held_times kind runs r p h holds =
    sym (there_times (runs_in r) p (holds.is_map.once p)) ∙ ap there (held_places kind runs r p holds) ∙ there_times runs p (runs_once runs h p)

-- two records that hold the runs before one and those from it on
pub parts_for : (front_kind tail_kind k : ℕ) (runs : List Run) (front tail : Record) → AreRuns runs → HoldsRuns front_kind (take k runs) front → HoldsRuns tail_kind (drop k runs) tail
    → ArePartsFor (place_of runs) front_kind tail_kind front tail
parts_for front_kind tail_kind k runs front tail h a b = record {
  front_map = a.is_map;
  tail_map = b.is_map;
  of_front = a.of_kind;
  of_tail = b.of_kind;
  one_map = record {
    placed = all_append IsPlaced (runs_in front) (runs_in tail ++ []) a.is_map.placed (all_append IsPlaced (runs_in tail) [] b.is_map.placed tt);
    once = λ p. omega (
      arith,
      times_append (runs_in front) (runs_in tail ++ []) p,
      times_append (runs_in tail) [] p,
      held_times front_kind (take k runs) front p (take_runs runs k h) a,
      held_times tail_kind (drop k runs) tail p (drop_runs runs k h) b,
      times_append (take k runs) (drop k runs) p,
      ap (λ l. times l p) (take-append-drop k runs),
      runs_once runs h p,
    );
  };
  same = λ p.
      place_append (runs_in front) (runs_in tail ++ []) p
      ∙ ap (λ l. over (places_in front p) (place_of l p)) (append-nil (runs_in tail))
      ∙ ap (λ x. over x (places_in tail p)) (held_places front_kind (take k runs) front p a)
      ∙ ap (over (place_of (take k runs) p)) (held_places tail_kind (drop k runs) tail p b)
      ∙ sym (place_append (take k runs) (drop k runs) p)
      ∙ ap (λ l. place_of l p) (take-append-drop k runs);
}

pub parts_same : (a b : Places) (front_kind tail_kind : ℕ) (front tail : Record) → ((p : ℕ) → a p ≡ b p) → ArePartsFor a front_kind tail_kind front tail → ArePartsFor b front_kind tail_kind front tail
parts_same a b front_kind tail_kind front tail same h = record {
  front_map = h.front_map;
  tail_map = h.tail_map;
  of_front = h.of_front;
  of_tail = h.of_tail;
  one_map = h.one_map;
  same = λ p. h.same p ∙ same p;
}

-- ** Room for them

-- a record with rows has from 4 to 22
pub rows_between : (r : Record) → 1 ≤ most_rows (kind_of r) → (4 ≤ most_rows (kind_of r)) × (most_rows (kind_of r) ≤ 22)
rows_between (Extents rows) some = (omega arith, omega arith)
rows_between (ShortExtents rows) some = (omega arith, omega arith)
rows_between (DenseExtents rows) some = (omega arith, omega arith)
rows_between (ShortDense rows) some = (omega arith, omega arith)
rows_between (Holes rows) some = (omega arith, omega arith)
rows_between _ some = absurd (omega (arith, some))

pub chain_rows : (version : Version) → 16 ≤ most_rows (chain_kind version)
chain_rows Three = omega arith
chain_rows Four = omega arith

pub chain_extents : (version : Version) → is_of_holes (chain_kind version) ≡ false
chain_extents Three = refl
chain_extents Four = refl

-- the runs after the first half are all others
pub all_others : (k : ℕ) (runs : List Run) → take (length runs - k) (drop k runs) ≡ drop k runs
all_others k runs = take_all (length runs - k) (drop k runs) (omega (arith, length-drop k runs))

-- a place that one kind of extents suits, another does
pub suits_other : (a b : ℕ) (x : PagePlace) → is_of_holes a ≡ false → is_of_holes b ≡ false → Suits a x → Suits b x
suits_other a b Absent is_a is_b h = tt
suits_other a b (At home) is_a is_b h = (is_b, h.1)
suits_other a b Hole is_a is_b h = absurd (true≢false (sym h ∙ is_a))

some_page : (kind : ℕ) → 1 ≤ most_pages kind
some_page kind = go (is_dense kind)
  where
    go : (b : Bool) → 1 ≤ cond b 65535 65536
    go true = omega arith
    go false = omega arith

absent_none : (x : PagePlace) → IsSome (home_at x) → x ≡ Absent → ⊥
absent_none Absent some e = cc
absent_none (At home) some e = cc
absent_none Hole some e = cc

-- the runs of a record's map with one page at another home
pub switched_few : (r : Record) (map runs : List Run) (page : ℕ) (home : Home) → IsMapRecord r → IsSome (home_at (places_in r page)) → SamePlaces (runs_in r) map → AreRuns runs
    → ((p : ℕ) → place_of runs p ≡ with_place page (At home) (place_of map) p) → length runs ≤ most_rows (kind_of r) + 2
switched_few r map runs page home is some same are change =
    let few = allowed_few r is.allowed in
    omega (
      arith,
      few.few,
      moved_few page home (most_pages (kind_of r)) (runs_in r) runs (some_page (kind_of r)) few.rising are (absent_none (places_in r page) some)
          (λ p. change p ∙ ap (λ x. cond (eqb p page) (At home) x) (same p)),
    )

pub switched_places : (r : Record) (map runs : List Run) (page : ℕ) (home : Home) → SamePlaces (runs_in r) map → ((p : ℕ) → place_of runs p ≡ with_place page (At home) (place_of map) p)
    → (p : ℕ) → place_of runs p ≡ with_place page (At home) (places_in r) p
switched_places r map runs page home same change p = change p ∙ ap (λ x. cond (eqb p page) (At home) x) (same p)
