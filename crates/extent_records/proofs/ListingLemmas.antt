-- The records of a whole map.
use Rattle.std.proofs.Common.{◌≡◌, ℕ, ◌+◌, ◌-◌, ◌<◌, ◌≤◌, Bool, true, false, leb, List, [], ◌∷◌, ◌++◌, length, take, drop, min, refl, sym, ap, subst, append_assoc, ◌∙◌, ◌⊎◌, inl, inr, arith}
use Rattle.std.specs.List.{flat_map, AllByRecursion}
use Rattle.std.proofs.lemmas.Grind.{flat_map-append}
use Rattle.std.proofs.lemmas.Bool.{cases_Bool, leb-true, leb-false}
use Rattle.std.proofs.lemmas.List.{append-nil, drop-drop, drop_all, take-append-drop, take_all, take_min, drop_min, length-append, length-drop}
use Rattle.cell_records.specs.domain_base.declared.version.Version.{Version}
use Rattle.cell_records.specs.domain_base.declared.version.Version.TheVariants.{Three, Four}
use Rattle.extent_maps.specs.declared.run.Run.{Run}
use Rattle.extent_maps.specs.declared.run.RunPlace.{RunPlace}
use Rattle.extent_maps.specs.declared.run.RunPlace.TheVariants as place
use Rattle.extent_maps.specs.declared.run.PagePlace.TheVariants.{Absent}
use Rattle.extent_maps.specs.Runs.{AreRuns, BeginBehind, behind, covers, end_of, first_goes_on, place_of, placed}
use Rattle.extent_maps.proofs.RunLemmas.{absent_before, all_map, behind_first}
use Rattle.extent_maps.proofs.EditLemmas.{covers_is, first_apart, follows_behind, over, over_placed, place_append}
use Rattle.cell_records.specs.declared.record.Record.{Record}
use Rattle.cell_records.specs.declared.record.Record.TheVariants.{Extents, ShortExtents, Holes, DenseExtents, ShortDense}
use Rattle.cell_records.specs.Records.{kind_of}
use Rattle.extent_records.specs.Rows.{AreOneMap, IsMapOf, IsPlaced, NoPageTwice, runs_in, runs_of, there, times}
use Rattle.extent_records.specs.Writing.{AllSuit, AreRowsFrom, HasRows, IsMapRecord, Suits, chain_kind, hole_kind, is_dense, is_of_holes, most_pages, most_rows, parts, pieces, rows_for, short_kind}
use Rattle.extent_records.specs.Listing.{AddsAll, AddsFirst, AddsOne, AllHomes, Fills, HasHome, HoldsRuns, ListsMap, hole_part, holes_in, home_part, homes_in}
use Rattle.extent_records.proofs.FewestLemmas.{few_pieces}
use Rattle.extent_records.proofs.PutLemmas.{all_append, there_times, times_append}
use Rattle.extent_records.proofs.RecordLemmas.{map_of_rows, parts_places, rows_once, rows_placed}
use Rattle.extent_records.proofs.WritingLemmas.{parts_dense, parts_plain, rows_of_runs}

-- ** Runs, some of which are kept

-- a function that keeps a run or does not
abbrev Keeps : (Run → List Run) → Type 0
Keeps f = (r : Run) → (f r ≡ r ∷ []) ⊎ (f r ≡ [])

pub keeps_homes : Keeps (λ run. home_part run.first run)
keeps_homes r = go r.first
  where
    go : (x : RunPlace) → (home_part x r ≡ r ∷ []) ⊎ (home_part x r ≡ [])
    go (place.At home) = inl refl
    go place.Holes = inr refl

pub keeps_holes : Keeps (λ run. hole_part run.first run)
keeps_holes r = go r.first
  where
    go : (x : RunPlace) → (hole_part x r ≡ r ∷ []) ⊎ (hole_part x r ≡ [])
    go (place.At home) = inr refl
    go place.Holes = inl refl

module _ (f : Run → List Run) (keeps : Keeps f) where
  kept_all : (P : Run → Type 0) (runs : List Run) → AllByRecursion P runs → AllByRecursion P (flat_map f runs)
  kept_all P [] h = tt
  kept_all P (r ∷ rs) h = go (f r) (keeps r) (kept_all P rs h.1)
    where
      go : (l : List Run) → (l ≡ r ∷ []) ⊎ (l ≡ []) → AllByRecursion P (flat_map f rs) → AllByRecursion P (l ++ flat_map f rs)
      go l (inl e) tail = subst (λ l. AllByRecursion P (l ++ flat_map f rs)) (sym e) (h.0, tail)
      go l (inr e) tail = subst (λ l. AllByRecursion P (l ++ flat_map f rs)) (sym e) tail

  apart_behind : (r : Run) (runs : List Run) → BeginBehind (end_of r) runs → first_goes_on r runs ≡ false
  apart_behind r [] h = refl
  apart_behind r (n ∷ ns) h = (follows_behind r n h.0).apart

  kept_apart : (r : Run) (runs : List Run) → AreRuns (r ∷ runs) → first_goes_on r (flat_map f runs) ≡ false
  kept_apart r [] h = refl
  kept_apart r (n ∷ ns) h = go (f n) (keeps n)
    where
      later : BeginBehind (end_of r) ns
      later = all_map {P = λ (x : Run). end_of n ≤ x.page} {Q = λ (x : Run). end_of r < x.page} (λ x le. omega (arith, le, h.1.behind, h.2.0.some)) ns (behind_first n ns h.2)

      go : (l : List Run) → (l ≡ n ∷ []) ⊎ (l ≡ []) → first_goes_on r (l ++ flat_map f ns) ≡ false
      go l (inl e) = subst (λ l. first_goes_on r (l ++ flat_map f ns) ≡ false) (sym e) h.1.apart
      go l (inr e) = subst (λ l. first_goes_on r (l ++ flat_map f ns) ≡ false) (sym e) (apart_behind r (flat_map f ns) (kept_all (λ (x : Run). end_of r < x.page) ns later))

  pub kept_runs : (runs : List Run) → AreRuns runs → AreRuns (flat_map f runs)
  kept_runs [] h = tt
  kept_runs (r ∷ rs) h = go (f r) (keeps r) (kept_runs rs h.2)
    where
      go : (l : List Run) → (l ≡ r ∷ []) ⊎ (l ≡ []) → AreRuns (flat_map f rs) → AreRuns (l ++ flat_map f rs)
      go l (inl e) tail = subst (λ l. AreRuns (l ++ flat_map f rs)) (sym e) (first_apart r (flat_map f rs) h.0 (kept_all (λ (x : Run). end_of r ≤ x.page) rs (behind_first r rs h)) (kept_apart r rs h) tail)
      go l (inr e) tail = subst (λ l. AreRuns (l ++ flat_map f rs)) (sym e) tail

  kept_behind : (r : Run) (runs : List Run) (p : ℕ) → AreRuns (r ∷ runs) → p < end_of r → place_of (flat_map f runs) p ≡ Absent
  kept_behind r runs p h lt = absent_before (flat_map f runs) p (kept_all (λ (x : Run). p < x.page) runs (all_map {P = λ (x : Run). end_of r ≤ x.page} {Q = λ (x : Run). p < x.page} (λ x le. omega (arith, le, lt)) runs (behind_first r runs h)))

-- ** Both parts of a map

both_places : (runs : List Run) (p : ℕ) → AreRuns runs → over (place_of (homes_in runs) p) (place_of (holes_in runs) p) ≡ place_of runs p
both_places [] p h = refl
both_places (r ∷ rs) p h = go r.first refl (both_places rs p h.2)
  where
    go : (x : RunPlace) → r.first ≡ x → over (place_of (homes_in rs) p) (place_of (holes_in rs) p) ≡ place_of rs p
        → over (place_of (home_part x r ++ homes_in rs) p) (place_of (hole_part x r ++ holes_in rs) p) ≡ place_of (r ∷ rs) p
    go (place.At home) e tail = elim (cases_Bool (covers r p)) [
      | inl has ↦ rw has (sym (over_placed (behind (p - r.page) r.first) (place_of (holes_in rs) p)))
      | inr lacks ↦ rw lacks tail
    ]
    go place.Holes e tail = elim (cases_Bool (covers r p)) [
      | inl has ↦ rw has (ap (λ x. over x (placed (behind (p - r.page) r.first))) (kept_behind (λ run. home_part run.first run) keeps_homes r rs p h (covers_is r p has).1))
      | inr lacks ↦ rw lacks tail
    ]

one_there : (x : RunPlace) → there (placed x) ≤ 1
one_there (place.At home) = omega arith
one_there place.Holes = omega arith

-- a page is in one part at most
both_there : (runs : List Run) (p : ℕ) → AreRuns runs → there (place_of (homes_in runs) p) + there (place_of (holes_in runs) p) ≤ 1
both_there [] p h = omega arith
both_there (r ∷ rs) p h = go r.first (both_there rs p h.2)
  where
    one : there (placed (behind (p - r.page) r.first)) ≤ 1
    one = one_there (behind (p - r.page) r.first)

    go : (x : RunPlace) → there (place_of (homes_in rs) p) + there (place_of (holes_in rs) p) ≤ 1
        → there (place_of (home_part x r ++ homes_in rs) p) + there (place_of (hole_part x r ++ holes_in rs) p) ≤ 1
    go (place.At home) tail = elim (cases_Bool (covers r p)) [
      | inl has ↦ rw (has, kept_behind (λ run. hole_part run.first run) keeps_holes r rs p h (covers_is r p has).1) (omega (arith, one))
      | inr lacks ↦ rw lacks tail
    ]
    go place.Holes tail = elim (cases_Bool (covers r p)) [
      | inl has ↦ rw (has, kept_behind (λ run. home_part run.first run) keeps_homes r rs p h (covers_is r p has).1) (omega (arith, one))
      | inr lacks ↦ rw lacks tail
    ]

-- ** Which kinds the parts suit

pub homes_suit : (kind : ℕ) (runs : List Run) → is_of_holes kind ≡ false → AllHomes runs → AllSuit kind runs
homes_suit kind [] plain h = tt
homes_suit kind (r ∷ rs) plain h = (go r.first h.0, homes_suit kind rs plain h.1)
  where
    go : (x : RunPlace) → HasHome x → Suits kind (placed x)
    go (place.At home) has = (plain, has)
    go place.Holes has = absurd has

pub holes_suit : (map : List Run) → AllSuit hole_kind (holes_in map)
holes_suit [] = tt
holes_suit (r ∷ rs) = go r.first refl (holes_suit rs)
  where
    go : (x : RunPlace) → r.first ≡ x → AllSuit hole_kind (holes_in rs) → AllSuit hole_kind (hole_part x r ++ holes_in rs)
    go (place.At home) e tail = tail
    go place.Holes e tail = (subst (λ y. Suits hole_kind (placed y)) (sym e) refl, tail)

-- ** Numbers of rows

rows_two : (r : Record) → 1 ≤ most_rows (kind_of r) → 2 ≤ most_rows (kind_of r)
rows_two (Extents rows) some = omega arith
rows_two (ShortExtents rows) some = omega arith
rows_two (DenseExtents rows) some = omega arith
rows_two (ShortDense rows) some = omega arith
rows_two (Holes rows) some = omega arith
rows_two _ some = absurd (omega (arith, some))

-- runs that are no more than a record has rows have room in it
pub few_rows : (r : Record) (runs : List Run) → 1 ≤ most_rows (kind_of r) → AreRuns runs → length runs ≤ most_rows (kind_of r) → length (rows_for (kind_of r) runs) ≤ most_rows (kind_of r)
few_rows r runs some h few = go (is_dense (kind_of r)) refl
  where
    two : 2 ≤ most_rows (kind_of r)
    two = rows_two r some

    dense : (rs : List Run) → AreRuns rs → length rs ≤ most_rows (kind_of r) → length (parts 65535 rs) ≤ most_rows (kind_of r)
    dense [] h few = omega arith
    dense (r ∷ []) h few = omega (arith, (few_pieces 65535 r).1, length-append (pieces 65535 r) [], two)
    dense (r ∷ n ∷ ns) h few = omega (arith, ap length (parts_dense (r ∷ n ∷ ns) r h (λ one. absurd (omega (arith, one)))), few)

    go : (b : Bool) → is_dense (kind_of r) ≡ b → length (rows_for (kind_of r) runs) ≤ most_rows (kind_of r)
    go true e = rw e (dense runs h few)
    go false e = rw e (omega (arith, ap length (parts_plain runs h), few))

pub holds_runs : (kind : ℕ) (runs : List Run) (r : Record) → 1 ≤ most_rows kind → AreRuns runs → AllSuit kind runs → HasRows kind (rows_for kind runs) r → HoldsRuns kind runs r
holds_runs kind runs r some h suits has = record {
  is_map = map_of_rows kind (rows_for kind runs) r some (rows_of_runs kind runs h suits) has;
  of_kind = has.of_kind;
  rows = has.says;
}

-- ** One record after the other

pub adds_none : (kind : ℕ) (runs : List Run) (records : List Record) → AddsFirst kind runs runs records records
adds_none kind runs records = record { more = []; list = sym (append-nil records); fills = λ others f. f }

pub adds_more : (kind at end : ℕ) (runs : List Run) (old mid new : List Record) → at < length runs → (end ≡ at + most_rows kind) ⊎ ((end ≡ length runs) × (length runs ≤ at + most_rows kind))
    → AddsFirst kind runs (drop at runs) old mid → AddsOne kind (take (end - at) (drop at runs)) mid new → AddsFirst kind runs (drop end runs) old new
adds_more kind at end runs old mid new lt side first one = record {
  more = first.more ++ one.more ∷ [];
  list = one.list ∙ ap (λ l. l ++ one.more ∷ []) first.list ∙ append_assoc old first.more (one.more ∷ []);
  fills = λ others f.
      subst (Fills kind runs) (sym (append_assoc first.more (one.more ∷ []) others)) (first.fills (one.more ∷ others) (some, subst (λ l. HoldsRuns kind l one.more) (chunk side) one.holds, subst (λ l. Fills kind l others) (left side) f));
}
  where
    some : 1 ≤ length (drop at runs)
    some = omega (arith, length-drop at runs, lt)

    chunk : (end ≡ at + most_rows kind) ⊎ ((end ≡ length runs) × (length runs ≤ at + most_rows kind)) → take (end - at) (drop at runs) ≡ take (most_rows kind) (drop at runs)
    chunk (inl e) = let n : end - at ≡ most_rows kind = omega (arith, e) in ap (λ n. take n (drop at runs)) n
    chunk (inr e) = take_all (end - at) (drop at runs) (omega (arith, length-drop at runs, e.0)) ∙ sym (take_all (most_rows kind) (drop at runs) (omega (arith, length-drop at runs, e.1)))

    left : (end ≡ at + most_rows kind) ⊎ ((end ≡ length runs) × (length runs ≤ at + most_rows kind)) → drop end runs ≡ drop (most_rows kind) (drop at runs)
    left (inl e) = ap (λ n. drop n runs) e ∙ sym (drop-drop (most_rows kind) at runs)
    left (inr e) = drop_all end runs (omega (arith, e.0)) ∙ sym (drop_all (most_rows kind) (drop at runs) (omega (arith, length-drop at runs, e.1)))

pub adds_min : (kind at rows end : ℕ) (runs : List Run) (old mid new : List Record) → at < length runs → rows ≡ most_rows kind → end ≡ min (length runs) (at + rows)
    → AddsFirst kind runs (drop at runs) old mid → AddsOne kind (take (end - at) (drop at runs)) mid new → AddsFirst kind runs (drop end runs) old new
adds_min kind at rows end runs old mid new lt count is first one = adds_more kind at end runs old mid new lt (go (leb (length runs) (at + rows)) refl) first one
  where
    go : (b : Bool) → leb (length runs) (at + rows) ≡ b → (end ≡ at + most_rows kind) ⊎ ((end ≡ length runs) × (length runs ≤ at + most_rows kind))
    go true e = let le = leb-true (length runs) (at + rows) e in inr (omega (arith, is, le), omega (arith, le, count))
    go false e = let lt = leb-false (length runs) (at + rows) e in inl (omega (arith, is, lt, count))

pub adds_all : (kind at : ℕ) (runs : List Run) (old new : List Record) → length runs ≤ at → AddsFirst kind runs (drop at runs) old new → AddsAll kind runs old new
adds_all kind at runs old new le first = record {
  more = first.more;
  list = first.list;
  fills = subst (Fills kind runs) (append-nil first.more) (first.fills [] (drop_all at runs le));
}

pub short_rows : (version : Version) → most_rows (short_kind version) ≡ 4
short_rows Three = refl
short_rows Four = refl

pub first_runs : (version : Version) (runs : List Run) (n : ℕ) → n ≡ min (length runs) 4 → take n runs ≡ take (most_rows (short_kind version)) runs
first_runs version runs n e =
    let m : n ≡ min 4 (length runs) = omega (arith, e) in
    ap (λ n. take n runs) m ∙ take_min 4 runs ∙ ap (λ n. take n runs) (sym (short_rows version))

pub last_runs : (version : Version) (runs : List Run) (n : ℕ) → n ≡ min (length runs) 4 → drop n runs ≡ drop (most_rows (short_kind version)) runs
last_runs version runs n e =
    let m : n ≡ min 4 (length runs) = omega (arith, e) in
    ap (λ n. drop n runs) m ∙ drop_min 4 runs ∙ ap (λ n. drop n runs) (sym (short_rows version))

pub lists_map : (version : Version) (map homes again holes : List Run) (none one chain all : List Record) → none ≡ [] → homes ≡ homes_in map → again ≡ homes_in map → holes ≡ holes_in map
    → AddsOne (short_kind version) (take (most_rows (short_kind version)) homes) none one
    → AddsAll (chain_kind version) (drop (most_rows (short_kind version)) again) one chain → AddsAll hole_kind holes chain all → ListsMap version map all
lists_map version map homes again holes none one chain all empty same same2 same3 a b c = record {
  short = a.more;
  chain = b.more;
  kept = c.more;
  list = c.list ∙ ap (λ l. l ++ c.more) (b.list ∙ ap (λ l. l ++ b.more) (a.list ∙ ap (λ l. l ++ a.more ∷ []) empty));
  first = subst (λ l. HoldsRuns (short_kind version) (take (most_rows (short_kind version)) l) a.more) same a.holds;
  extents = subst (λ l. Fills (chain_kind version) (drop (most_rows (short_kind version)) l) b.more) same2 b.fills;
  holes = subst (λ l. Fills hole_kind l c.more) same3 c.fills;
}

-- ** What the records of a map say

parts_append : (most : ℕ) (xs ys : List Run) → parts most (xs ++ ys) ≡ parts most xs ++ parts most ys
parts_append most xs ys = flat_map-append (pieces most) xs ys

fills_runs : (kind : ℕ) (runs : List Run) (records : List Record) → Fills kind runs records → runs_of records ≡ rows_for kind runs
fills_runs kind runs [] h = ap (rows_for kind) (sym h)
fills_runs kind runs (r ∷ rs) h =
    ap (λ l. l ++ runs_of rs) h.1.rows ∙ ap (λ l. rows_for kind (take (most_rows kind) runs) ++ l) (fills_runs kind (drop (most_rows kind) runs) rs h.2)
    ∙ sym (parts_append (most_pages kind) (take (most_rows kind) runs) (drop (most_rows kind) runs)) ∙ ap (rows_for kind) (take-append-drop (most_rows kind) runs)

fills_maps : (kind : ℕ) (runs : List Run) (records : List Record) → Fills kind runs records → AllByRecursion IsMapRecord records
fills_maps kind runs [] h = tt
fills_maps kind runs (r ∷ rs) h = (h.1.is_map, fills_maps kind (drop (most_rows kind) runs) rs h.2)

same_pages : (version : Version) (runs : List Run) → rows_for (chain_kind version) runs ≡ rows_for (short_kind version) runs
same_pages Three runs = refl
same_pages Four runs = refl

plain_kind : (version : Version) → is_of_holes (short_kind version) ≡ false
plain_kind Three = refl
plain_kind Four = refl

maps_append : (xs ys : List Record) → AllByRecursion IsMapRecord xs → AllByRecursion IsMapRecord ys → AllByRecursion IsMapRecord (xs ++ ys)
maps_append [] ys a b = b
maps_append (x ∷ xs) ys a b = (a.0, maps_append xs ys a.1 b)

module _ (version : Version) (map : List Run) (records : List Record) (h : AreRuns map) (homes : AllHomes (homes_in map)) (lists : ListsMap version map records) where
  abbrev kind : ℕ
  kind = short_kind version

  abbrev all : List Run
  all = homes_in map

  pub all_maps : AllByRecursion IsMapRecord records
  all_maps =
      subst (AllByRecursion IsMapRecord) (sym lists.list) (
        lists.first.is_map,
        maps_append lists.chain lists.kept (fills_maps (chain_kind version) (drop (most_rows kind) all) lists.chain lists.extents) (fills_maps hole_kind (holes_in map) lists.kept lists.holes),
      )

  said : runs_of records ≡ rows_for kind all ++ rows_for hole_kind (holes_in map)
  said =
      ap runs_of lists.list ∙ ap (λ l. runs_in lists.short ++ l) (flat_map-append runs_in lists.chain lists.kept)
      ∙ ap (λ l. l ++ (runs_of lists.chain ++ runs_of lists.kept)) lists.first.rows
      ∙ ap (λ l. rows_for kind (take (most_rows kind) all) ++ (l ++ runs_of lists.kept)) (fills_runs (chain_kind version) (drop (most_rows kind) all) lists.chain lists.extents ∙ same_pages version (drop (most_rows kind) all))
      ∙ ap (λ l. rows_for kind (take (most_rows kind) all) ++ (rows_for kind (drop (most_rows kind) all) ++ l)) (fills_runs hole_kind (holes_in map) lists.kept lists.holes)
      ∙ sym (append_assoc (rows_for kind (take (most_rows kind) all)) (rows_for kind (drop (most_rows kind) all)) (rows_for hole_kind (holes_in map)))
      ∙ ap (λ l. l ++ rows_for hole_kind (holes_in map)) (sym (parts_append (most_pages kind) (take (most_rows kind) all) (drop (most_rows kind) all)) ∙ ap (rows_for kind) (take-append-drop (most_rows kind) all))

  home_rows : AreRowsFrom kind 0 (rows_for kind all)
  home_rows = rows_of_runs kind all (kept_runs (λ run. home_part run.first run) keeps_homes map h) (homes_suit kind all (plain_kind version) homes)

  hole_rows : AreRowsFrom hole_kind 0 (rows_for hole_kind (holes_in map))
  hole_rows = rows_of_runs hole_kind (holes_in map) (kept_runs (λ run. hole_part run.first run) keeps_holes map h) (holes_suit map)

  pub is_map_of : IsMapOf records map
  is_map_of p =
      sym (both_places map p h)
      ∙ ap (λ x. over x (place_of (holes_in map) p)) (sym (parts_places (most_pages kind) all p))
      ∙ ap (over (place_of (rows_for kind all) p)) (sym (parts_places (most_pages hole_kind) (holes_in map) p))
      ∙ sym (place_append (rows_for kind all) (rows_for hole_kind (holes_in map)) p) ∙ ap (λ l. place_of l p) (sym said)

  pub are_one_map : AreOneMap records
  are_one_map = record {
    placed = subst (AllByRecursion IsPlaced) (sym said) (all_append IsPlaced (rows_for kind all) (rows_for hole_kind (holes_in map)) (rows_placed kind 0 (rows_for kind all) home_rows) (rows_placed hole_kind 0 (rows_for hole_kind (holes_in map)) hole_rows));
    once = subst NoPageTwice (sym said) (λ p. omega (arith, times_append (rows_for kind all) (rows_for hole_kind (holes_in map)) p, both_there map p h, home_times p, hole_times p));
  }
    where
      home_times : (p : ℕ) → times (rows_for kind all) p ≡ there (place_of all p)
      home_times p = sym (there_times (rows_for kind all) p (rows_once kind 0 (rows_for kind all) home_rows p)) ∙ ap there (parts_places (most_pages kind) all p)

      hole_times : (p : ℕ) → times (rows_for hole_kind (holes_in map)) p ≡ there (place_of (holes_in map) p)
      hole_times p = sym (there_times (rows_for hole_kind (holes_in map)) p (rows_once hole_kind 0 (rows_for hole_kind (holes_in map)) hole_rows p)) ∙ ap there (parts_places (most_pages hole_kind) (holes_in map) p)
