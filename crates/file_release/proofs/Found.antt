-- A walk along the cells of a file to one that has something to let go of.
use Rattle.std.proofs.Common.{◌≡◌, ◌∙◌, cond, nat_eq, ℕ, zero, suc, ◌+◌, ◌-◌, ◌<◌, ◌≤◌, Bool, true, List, [], ◌∷◌, ◌++◌, length, Option, Some, None, Contains, is_some, refl, sym, ap, subst, arith, append_assoc, length-append, ⊎_elim, ◌⊎◌, inl, inr}
use Rattle.std.proofs.lemmas.Bool.{eq-eqb, true≢false}
use Rattle.std.proofs.lemmas.List.{append-nil}
use Rattle.std.specs.List.{AllByRecursion}
use Rattle.fileset_files.specs.domain_base.declared.place.CellAt.{CellAt}
use Rattle.fileset_files.specs.domain_base.declared.place.Home.{Home}
use Rattle.fileset_files.specs.page_store.Pages.{Pages}
use Rattle.fileset_files.specs.cell_records.declared.record.Record.{Record}
use Rattle.fileset_files.specs.extent_maps.declared.run.PagePlace.{PagePlace}
use Rattle.fileset_files.specs.extent_maps.declared.run.PagePlace.TheVariants.{Absent, At, Hole}
use Rattle.fileset_files.specs.extent_maps.declared.run.Run.{Run}
use Rattle.fileset_files.specs.extent_maps.Runs.{Places, behind, place_of, placed}
use Rattle.fileset_files.proofs.OfExtentMaps.EditLemmas.{covers_from, never_absent, over}
use Rattle.fileset_files.specs.extent_records.Rows.{IsPlaced, runs_in, runs_of}
use Rattle.fileset_files.specs.extent_records.Writing.{places_in}
use Rattle.fileset_files.proofs.OfExtentRecords.ChainLemmas.{over_absent}
use Rattle.fileset_files.specs.file_chains.Files.{HasMap, IsFile, IsNumbered, places_of}
use Rattle.fileset_files.proofs.OfFileChains.Walks.{Mapped, RestAt, There, all_push, cell_places, distinct_file, first_places, map_cells, rest_of, there_at, walk_short}
use Rattle.fileset_files.specs.metadata_cells.Chain.{AreDistinct, Follow, PlacedCell, StandsAt, places}
use Rattle.file_release.specs.declared.stale.Stale.{Stale}
use Rattle.file_release.specs.Reading.{HasPageFrom}
use Rattle.file_release.specs.Sharing.{HasPages, IsReleased, LaterHavePages}
use Rattle.file_release.specs.Steps.{IsStale, IsStaleCell, last_place}

-- ---- one record

module _ (from end : ℕ) (is_behind : Bool) (map : List Run) (places : Places) (same : (p : ℕ) → place_of map p ≡ places p) where
  pub stale_from : from < end → (0 < end → place_of map (end - 1) ≡ Absent → ⊥) → IsStale from is_behind places
  stale_from more last = inl (record { page = end - 1; begins = omega (arith, more); there = λ none. last (omega (arith, more)) (same (end - 1) ∙ none) })

  pub stale_empty : is_behind ≡ true → end ≡ 0 → ((p : ℕ) → end ≤ p → place_of map p ≡ Absent) → IsStale from is_behind places
  stale_empty is zero_end none = inr (is, λ p. sym (same p) ∙ none p (omega (arith, zero_end)))

  pub not_stale : end ≤ from → (is_behind ≡ true → end ≡ 0 → ⊥) → (0 < end → place_of map (end - 1) ≡ Absent → ⊥) → ((p : ℕ) → end ≤ p → place_of map p ≡ Absent) → IsStale from is_behind places → ⊥
  not_stale less some last none stale = ⊎_elim
      (λ has. has.there (sym (same has.page) ∙ none has.page (omega (arith, less, has.begins))))
      (λ empty. by_end end refl empty)
      stale
    where
      by_end : (n : ℕ) → end ≡ n → (is_behind ≡ true) × ((p : ℕ) → places p ≡ Absent) → ⊥
      by_end zero is empty = some empty.0 is
      by_end (suc n) is empty = last (omega (arith, is)) (same (end - 1) ∙ empty.1 (end - 1))

  -- what is stale though it has no page from there on has none
  pub stale_is_empty : end ≤ from → (0 < end → place_of map (end - 1) ≡ Absent → ⊥) → ((p : ℕ) → end ≤ p → place_of map p ≡ Absent) → IsStale from is_behind places → nat_eq end 0 ≡ true
  stale_is_empty less last none stale = by_end end refl
    where
      by_end : (n : ℕ) → end ≡ n → nat_eq end 0 ≡ true
      by_end zero is = eq-eqb end 0 is
      by_end (suc n) is = absurd (not_stale less (λ _ zero_end. omega (arith, is, zero_end)) last none stale)

-- the first of some runs has a page
pub first_there : (run : Run) (runs : List Run) → AllByRecursion IsPlaced (run ∷ runs) → HasPageFrom 0 (place_of (run ∷ runs))
first_there run runs all = record {
  page = run.page;
  begins = omega arith;
  there = λ none. never_absent (behind (run.page - run.page) run.first)
      (sym (ap (λ (b : Bool). cond b (placed (behind (run.page - run.page) run.first)) (place_of runs run.page)) (covers_from run run.page (omega arith) (omega (arith, all.0.is_run.some)))) ∙ none);
}

-- runs have a page, or none
pub some_or_none : (runs : List Run) → AllByRecursion IsPlaced runs → HasPageFrom 0 (place_of runs) ⊎ ((p : ℕ) → place_of runs p ≡ Absent)
some_or_none [] all = inr (λ p. refl)
some_or_none (run ∷ runs) all = inl (first_there run runs all)

pub absent_unless : (x : PagePlace) → ((x ≡ Absent → ⊥) → ⊥) → x ≡ Absent
absent_unless Absent not = refl
absent_unless (At home) not = absurd (not (λ is. at_is home is))
  where
    at_is : (home : Home) → At home ≡ Absent → ⊥
    at_is home is = cc
absent_unless Hole not = absurd (not (λ is. hole_is is))
  where
    hole_is : Hole ≡ Absent → ⊥
    hole_is is = cc

-- where the only cell of a list has a page
pub one_cell : (c : PlacedCell) (value : Record) (p : ℕ) → HasMap c.cell value → places_of (c ∷ []) p ≡ places_in value p
one_cell c value p has = first_places c [] p ∙ over_absent (place_of (runs_of c.cell.records) p) ∙ cell_places c.cell value p has

-- ---- the walk

pub last_push : (cs : List PlacedCell) (c : PlacedCell) → last_place (cs ++ c ∷ []) ≡ Some c.at
last_push [] c = refl
last_push (x ∷ []) c = refl
last_push (x ∷ y ∷ cs) c = last_push (y ∷ cs) c

none_behind : (x : PlacedCell) (cs : List PlacedCell) → is_some (last_place (x ∷ cs)) ≡ true
none_behind x [] = refl
none_behind x (y ∷ cs) = none_behind y cs

pub front_some : (cs : List PlacedCell) → ¬ cs ≡ [] → is_some (last_place cs) ≡ true
front_some [] some = absurd (some refl)
front_some (x ∷ cs) some = none_behind x cs

later_push : (x : PlacedCell) (cs : List PlacedCell) (c : PlacedCell) → LaterHavePages (x ∷ cs) → HasPages c → LaterHavePages (x ∷ (cs ++ c ∷ []))
later_push x cs c later has = push cs later
  where
    push : (cs : List PlacedCell) → AllByRecursion HasPages cs → AllByRecursion HasPages (cs ++ c ∷ [])
    push [] all = (has, tt)
    push (y ∷ cs) all = (all.0, push cs all.1)

pub places_append : (xs ys : List PlacedCell) (p : ℕ) → places_of (xs ++ ys) p ≡ over (places_of xs p) (places_of ys p)
places_append [] ys p = refl
places_append (x ∷ xs) ys p =
    first_places x (xs ++ ys) p ∙ ap (over (place_of (runs_of x.cell.records) p)) (places_append xs ys p) ∙ over_assoc (place_of (runs_of x.cell.records) p) (places_of xs p) (places_of ys p)
    ∙ ap (λ z. over z (places_of ys p)) (sym (first_places x xs p))
  where
    over_assoc : (a b c : PagePlace) → over a (over b c) ≡ over (over a b) c
    over_assoc Absent b c = refl
    over_assoc (At home) b c = refl
    over_assoc Hole b c = refl

-- after the cells that are skipped none so far has anything to let go of
pub record IsOnWay (pages : Pages) (from i : ℕ) (cursor before next : Option CellAt) (chain : List PlacedCell) : Type 0 where
  pub skipped : List PlacedCell
  pub passed : List PlacedCell
  pub rest : List PlacedCell
  pub all : chain ≡ skipped ++ (passed ++ rest)
  pub none : cursor ≡ None → skipped ≡ []
  pub count : length passed ≡ i
  pub numbered : AllByRecursion (λ (c : PlacedCell). IsNumbered c.at) passed
  pub here : RestAt pages next rest
  pub maps : AllByRecursion Mapped rest
  pub last : before ≡ last_place (skipped ++ passed)
  pub released : skipped ≡ [] → IsReleased from passed

pub way_begins : (pages : Pages) (from : ℕ) (start : CellAt) (chain : List PlacedCell) → IsFile pages start chain → IsOnWay pages from 0 None None (Some start) chain
way_begins pages from start [] is = absurd is
way_begins pages from start (first ∷ rest) is = record {
  skipped = [];
  passed = [];
  rest = first ∷ rest;
  all = refl;
  none = λ _. refl;
  count = refl;
  numbered = tt;
  here = (is.0, is.1.links.stands, is.1.links.follow);
  maps = (record { value = is.1.value; map = is.1.map }, map_cells rest is.1.others);
  last = refl;
  released = λ _. record { absent = λ page less. refl; later = tt };
}

-- the cells after one of a chain
pub record IsSplit (pages : Pages) (at : CellAt) (cells : List PlacedCell) : Type 0 where
  pub front : List PlacedCell
  pub c : PlacedCell
  pub rest : List PlacedCell
  pub all : cells ≡ front ++ c ∷ rest
  pub is_at : c.at ≡ at
  pub stands : StandsAt pages at c.cell
  pub follow : Follow pages c.cell.head rest
  pub maps : AllByRecursion Mapped rest

split_at : (pages : Pages) (at : CellAt) (c : PlacedCell) (cs : List PlacedCell) → StandsAt pages c.at c.cell → Follow pages c.cell.head cs → AllByRecursion Mapped cs → Contains (places (c ∷ cs)) at → IsSplit pages at (c ∷ cs)
split_at pages at c cs stands follow maps (zero, within, is) = record {
  front = [];
  c = c;
  rest = cs;
  all = refl;
  is_at = is;
  stands = subst (λ (a : CellAt). StandsAt pages a c.cell) is stands;
  follow = follow;
  maps = maps;
}
split_at pages at c [] stands follow maps (suc k, within, is) = absurd (omega (arith, within))
split_at pages at c (d ∷ ds) stands follow maps (suc k, within, is) =
    let s = split_at pages at d ds follow.2 follow.3 maps.1 (k, omega (arith, within), is) in
    record {
      front = c ∷ s.front;
      c = s.c;
      rest = s.rest;
      all = ap (λ (cs : List PlacedCell). c ∷ cs) s.all;
      is_at = s.is_at;
      stands = s.stands;
      follow = s.follow;
      maps = s.maps;
    }

pub split_file : (pages : Pages) (start at : CellAt) (chain : List PlacedCell) → IsFile pages start chain → Contains (places chain) at → IsSplit pages at chain
split_file pages start at [] is inside = absurd is
split_file pages start at (first ∷ rest) is inside = split_at pages at first rest is.1.links.stands is.1.links.follow (map_cells rest is.1.others) inside

some_none : (at : CellAt) → Some at ≡ None → ⊥
some_none at is = cc

-- the walk begins after a cell
pub way_goes_on : (pages : Pages) (from : ℕ) (start at : CellAt) (chain : List PlacedCell) → IsFile pages start chain → (s : IsSplit pages at chain) → IsOnWay pages from 0 (Some at) (Some at) s.c.cell.head.next chain
way_goes_on pages from start at chain is s = record {
  skipped = s.front ++ s.c ∷ [];
  passed = [];
  rest = s.rest;
  all = s.all ∙ sym (append_assoc s.front (s.c ∷ []) s.rest);
  none = λ none. absurd (some_none at none);
  count = refl;
  numbered = tt;
  here = rest_of pages s.c.cell.head s.rest s.follow;
  maps = s.maps;
  last = ap Some (sym s.is_at) ∙ sym (last_push s.front s.c) ∙ ap last_place (sym (append-nil (s.front ++ s.c ∷ [])));
  released = λ none. absurd (push_some s.front s.c none);
}
  where
    push_some : (xs : List PlacedCell) (c : PlacedCell) → xs ++ c ∷ [] ≡ [] → ⊥
    push_some [] c none = cc
    push_some (x ∷ xs) c none = cc

module _ (pages : Pages) (from i : ℕ) (cursor before : Option CellAt) (at : CellAt) (chain : List PlacedCell) (way : IsOnWay pages from i cursor before (Some at) chain) where
  pub there : There pages at way.rest
  there = there_at pages at way.rest way.here way.maps

  split : chain ≡ way.skipped ++ (way.passed ++ there.c ∷ there.cs)
  split = way.all ∙ ap (λ (cs : List PlacedCell). way.skipped ++ (way.passed ++ cs)) there.all

  pub way_found : (stale : Stale) → stale.before ≡ before → stale.at ≡ at → IsStale from (is_some before) (places_in there.mapped.value) → IsStaleCell from chain stale
  way_found stale before_is at_is is_stale = record {
    front = way.skipped ++ way.passed;
    c = there.c;
    rest = there.cs;
    value = there.mapped.value;
    all = split ∙ sym (append_assoc way.skipped way.passed (there.c ∷ there.cs));
    is_at = there.is_at ∙ sym at_is;
    before = before_is ∙ way.last;
    map = there.mapped.map;
    is_stale = subst (λ (o : Option CellAt). IsStale from (is_some o) (places_in there.mapped.value)) (sym before_is) is_stale;
  }

  pub way_on : IsNumbered at → (IsStale from (is_some before) (places_in there.mapped.value) → ⊥) → IsOnWay pages from (i + 1) cursor (Some at) there.c.cell.head.next chain
  way_on numbered fresh = record {
    skipped = way.skipped;
    none = way.none;
    passed = way.passed ++ there.c ∷ [];
    rest = there.cs;
    all = split ∙ ap (λ (cs : List PlacedCell). way.skipped ++ cs) (sym (append_assoc way.passed (there.c ∷ []) there.cs));
    count = omega (arith, length-append way.passed (there.c ∷ []), way.count);
    numbered = all_push way.passed there.c way.numbered (subst IsNumbered (sym there.is_at) numbered);
    here = rest_of pages there.c.cell.head there.cs there.follow;
    maps = there.maps;
    last = ap Some (sym there.is_at) ∙ sym (last_push (way.skipped ++ way.passed) there.c) ∙ ap last_place (append_assoc way.skipped way.passed (there.c ∷ []));
    released = λ none. released_on way.passed there.c there.mapped.value there.mapped.map (way.released none)
        (λ stale. fresh (subst (λ (o : Option CellAt). IsStale from (is_some o) (places_in there.mapped.value)) (sym (way.last ∙ ap (λ (cs : List PlacedCell). last_place (cs ++ way.passed)) none)) stale));
  }
    where
      released_on : (passed : List PlacedCell) (c : PlacedCell) (value : Record) → HasMap c.cell value → IsReleased from passed → (IsStale from (is_some (last_place passed)) (places_in value) → ⊥) → IsReleased from (passed ++ c ∷ [])
      released_on passed c value has released fresh = record {
        absent = λ p less. places_append passed (c ∷ []) p ∙ ap (λ x. over x (places_of (c ∷ []) p)) (released.absent p less) ∙ one_cell c value p has
            ∙ absent_unless (places_in value p) (λ some. fresh (inl (record { page = p; begins = less; there = some })));
        later = by_front passed released.later (λ empty. fresh (inr empty));
      }
        where
          by_front : (passed : List PlacedCell) → LaterHavePages passed → ((is_some (last_place passed) ≡ true) × ((p : ℕ) → places_in value p ≡ Absent) → ⊥) → LaterHavePages (passed ++ c ∷ [])
          by_front [] later some = tt
          by_front (x ∷ xs) later some = later_push x xs c later (⊎_elim
              (λ page. record { page = page.page; there = λ none. page.there (sym (one_cell c value page.page has) ∙ none) })
              (λ none. absurd (some (none_behind x xs, none)))
              (some_or_none (runs_in value) has.is_map.placed))

pub way_ends : (pages : Pages) (from i : ℕ) (cursor before : Option CellAt) (chain : List PlacedCell) → IsOnWay pages from i cursor before None chain → cursor ≡ None → IsReleased from chain
way_ends pages from i cursor before chain way none =
    subst (IsReleased from) (sym (way.all ∙ ap (λ (cs : List PlacedCell). cs ++ (way.passed ++ way.rest)) (way.none none) ∙ ap (λ (cs : List PlacedCell). way.passed ++ cs) way.here ∙ append-nil way.passed)) (way.released (way.none none))

distinct_behind : (xs ys : List PlacedCell) → AreDistinct (xs ++ ys) → AreDistinct ys
distinct_behind [] ys distinct = distinct
distinct_behind (x ∷ xs) ys distinct = distinct_behind xs ys distinct.1

pub way_short : (pages : Pages) (from i : ℕ) (cursor before next : Option CellAt) (start : CellAt) (chain : List PlacedCell) → IsFile pages start chain → IsOnWay pages from i cursor before next chain → i ≤ 9895604649984
way_short pages from i cursor before next start chain is way =
    omega (arith, way.count, walk_short way.passed way.rest (distinct_behind way.skipped (way.passed ++ way.rest) (subst AreDistinct way.all (distinct_file pages start chain is))) way.numbered)

later_back : (xs : List PlacedCell) (c : PlacedCell) (cs : List PlacedCell) → ¬ xs ≡ [] → LaterHavePages (xs ++ c ∷ cs) → HasPages c
later_back [] c cs some later = absurd (some refl)
later_back (x ∷ xs) c cs some later = back xs later
  where
    back : (xs : List PlacedCell) → AllByRecursion HasPages (xs ++ c ∷ cs) → HasPages c
    back [] all = all.0
    back (y ∷ xs) all = back xs all.1

no_front : (cs : List PlacedCell) → is_some (last_place cs) ≡ true → ¬ cs ≡ []
no_front [] is = absurd (true≢false (sym is))
no_front (x ∷ xs) is = λ e. cc

pub front_of : (from : ℕ) (chain : List PlacedCell) (stale : Stale) (spot : IsStaleCell from chain stale) → is_some stale.before ≡ true → ¬ spot.front ≡ []
front_of from chain stale spot is = no_front spot.front (ap (λ (o : Option CellAt). is_some o) (sym spot.before) ∙ is)

-- a page that a chain does not have none of its cells has
absent_inside : (xs : List PlacedCell) (c : PlacedCell) (cs : List PlacedCell) (p : ℕ) → places_of (xs ++ c ∷ cs) p ≡ Absent → places_of (c ∷ []) p ≡ Absent
absent_inside xs c cs p none =
    let behind = (over_absents (places_of xs p) (places_of (c ∷ cs) p) (sym (places_append xs (c ∷ cs) p) ∙ none)).1 in
    (over_absents (places_of (c ∷ []) p) (places_of cs p) (sym (places_append (c ∷ []) cs p) ∙ behind)).0
  where
    over_absents : (a b : PagePlace) → over a b ≡ Absent → (a ≡ Absent) × (b ≡ Absent)
    over_absents Absent b is = (refl, is)
    over_absents (At home) b is = absurd cc
    over_absents Hole b is = absurd cc

-- where a cell has something to let go of, the chain has
pub found_unreleased : (from : ℕ) (chain : List PlacedCell) (stale : Stale) → IsStaleCell from chain stale → IsReleased from chain → ⊥
found_unreleased from chain stale spot released = ⊎_elim
    (λ has. has.there (sym (one_cell spot.c spot.value has.page spot.map)
    ∙ absent_inside spot.front spot.c spot.rest has.page (ap (λ (cs : List PlacedCell). places_of cs has.page) (sym spot.all) ∙ released.absent has.page has.begins)))
    (λ empty.
    let has = later_back spot.front spot.c spot.rest (front_of from chain stale spot empty.0) (subst LaterHavePages spot.all released.later) in
    has.there (one_cell spot.c spot.value has.page spot.map ∙ empty.1 has.page))
    spot.is_stale
