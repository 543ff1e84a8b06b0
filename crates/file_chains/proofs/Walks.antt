-- A walk along the cells of a file that remembers none of them.
use Rattle.std.proofs.Common.{◌≡◌, ◌≢◌, ◌∙◌, ℕ, zero, suc, ◌+◌, ◌<◌, ◌≤◌, true, false, nat_eq, List, [], ◌∷◌, ◌++◌, length, map, Option, Some, None, Contains, refl, sym, ap, subst, arith, append_assoc, length-append, ⊎_elim}
use Rattle.std.proofs.lemmas.Bool.{eqb-true, ne_eqb, or_cases, true≢false}
use Rattle.std.proofs.lemmas.Grind.{flat_map-append}
use Rattle.std.proofs.lemmas.List.{append-nil, length-map}
use Rattle.std.proofs.lemmas.Map.Steps.{length-le_from_distinct_below}
use Rattle.std.specs.List.{AllByRecursion, IsDistinct, list_any}
use Rattle.free_cells.specs.domain_base.declared.place.CellAt.{CellAt}
use Rattle.free_cells.specs.page_store.Pages.{Pages}
use Rattle.free_cells.specs.cell_records.declared.record.Record.{Record}
use Rattle.free_cells.specs.metadata_cells.declared.head.CellHead.{CellHead}
use Rattle.free_cells.specs.metadata_cells.Cell.{Cell}
use Rattle.free_cells.specs.metadata_cells.Chain.{AreDistinct, Follow, PlacedCell, StandsAt, key_of, places, records_of}
use Rattle.extent_records.specs.extent_maps.declared.run.PagePlace.{PagePlace}
use Rattle.extent_records.specs.extent_maps.declared.run.PagePlace.TheVariants.{Absent, At, Hole}
use Rattle.extent_records.specs.extent_maps.Runs.{place_of}
use Rattle.extent_records.proofs.OfExtentMaps.EditLemmas.{over, place_append}
use Rattle.extent_records.specs.Rows.{runs_in, runs_of}
use Rattle.extent_records.specs.Writing.{places_in}
use Rattle.free_cells.proofs.OfMetadataCells.Walk.{IsKeyed, same_key as addresses_same}
use Rattle.file_chains.specs.Files.{HasMap, IsNumbered, IsFile, IsMapCell, map_records, places_of}
use Rattle.file_chains.proofs.MapRecords.{one_map_record, runs_by_map}

-- each cell has a record that says where pages stand
pub record Mapped (c : PlacedCell) : Type 0 where
  pub value : Record
  pub map : HasMap c.cell value

map_cell : (c : PlacedCell) → IsMapCell c.cell → Mapped c
map_cell c is = record { value = is.value; map = record { only = ap map_records is.only ∙ one_map_record is.value is.is_map; is_map = is.is_map } }

pub map_cells : (cs : List PlacedCell) → AllByRecursion (λ (c : PlacedCell). IsMapCell c.cell) cs → AllByRecursion Mapped cs
map_cells [] all = tt
map_cells (c ∷ cs) all = (map_cell c all.0, map_cells cs all.1)

-- the cells that are left: the first stands at the next address
abbrev pub RestAt : Pages → Option CellAt → List PlacedCell → Type 0
RestAt pages None rest = rest ≡ []
RestAt pages (Some at) [] = ⊥
RestAt pages (Some at) (c ∷ cs) = (c.at ≡ at) × StandsAt pages c.at c.cell × Follow pages c.cell.head cs

pub rest_of : (pages : Pages) (head : CellHead) (cs : List PlacedCell) → Follow pages head cs → RestAt pages head.next cs
rest_of pages head [] follow = subst (λ next. RestAt pages next []) (sym follow) refl
rest_of pages head (c ∷ cs) follow = subst (λ next. RestAt pages next (c ∷ cs)) (sym follow.0) (refl, follow.2, follow.3)

pub all_push : (cs : List PlacedCell) (c : PlacedCell) → AllByRecursion (λ (c : PlacedCell). IsNumbered c.at) cs → IsNumbered c.at → AllByRecursion (λ (c : PlacedCell). IsNumbered c.at) (cs ++ c ∷ [])
all_push [] c all new = (new, tt)
all_push (x ∷ cs) c all new = (all.0, all_push cs c all.1 new)

-- so far the page was in no cell
pub record IsOnWay (pages : Pages) (page i : ℕ) (next : Option CellAt) (cells : List PlacedCell) : Type 0 where
  pub passed : List PlacedCell
  pub rest : List PlacedCell
  pub all : cells ≡ passed ++ rest
  pub count : length passed ≡ i
  pub numbered : AllByRecursion (λ (c : PlacedCell). IsNumbered c.at) passed
  pub here : RestAt pages next rest
  pub maps : AllByRecursion Mapped rest
  pub same : places_of cells page ≡ places_of rest page

pub way_begins : (pages : Pages) (page : ℕ) (start : CellAt) (cells : List PlacedCell) → IsFile pages start cells → IsOnWay pages page 0 (Some start) cells
way_begins pages page start [] is = absurd is
way_begins pages page start (first ∷ rest) is = record {
  passed = [];
  rest = first ∷ rest;
  all = refl;
  count = refl;
  numbered = tt;
  here = (is.0, is.1.links.stands, is.1.links.follow);
  maps = (record { value = is.1.value; map = is.1.map }, map_cells rest is.1.others);
  same = refl;
}

-- what a cell says is what its one record says
pub cell_places : (cell : Cell) (value : Record) (page : ℕ) → HasMap cell value → place_of (runs_of cell.records) page ≡ places_in value page
cell_places cell value page has = ap (λ rs. place_of rs page) (runs_by_map cell.records ∙ ap runs_of has.only ∙ append-nil (runs_in value))

pub first_places : (c : PlacedCell) (cs : List PlacedCell) (page : ℕ) → places_of (c ∷ cs) page ≡ over (place_of (runs_of c.cell.records) page) (places_of cs page)
first_places c cs page = ap (λ rs. place_of rs page) (flat_map-append runs_in c.cell.records (records_of cs)) ∙ place_append (runs_of c.cell.records) (runs_of (records_of cs)) page

-- the cell that a walk is at, and those after it
pub record There (pages : Pages) (at : CellAt) (rest : List PlacedCell) : Type 0 where
  pub c : PlacedCell
  pub cs : List PlacedCell
  pub all : rest ≡ c ∷ cs
  pub is_at : c.at ≡ at
  pub stands : StandsAt pages at c.cell
  pub mapped : Mapped c
  pub follow : Follow pages c.cell.head cs
  pub maps : AllByRecursion Mapped cs

pub there_at : (pages : Pages) (at : CellAt) (rest : List PlacedCell) → RestAt pages (Some at) rest → AllByRecursion Mapped rest → There pages at rest
there_at pages at [] here maps = absurd here
there_at pages at (c ∷ cs) here maps = record {
  c = c;
  cs = cs;
  all = refl;
  is_at = here.0;
  stands = subst (λ (a : CellAt). StandsAt pages a c.cell) here.0 here.1;
  mapped = maps.0;
  follow = here.2;
  maps = maps.1;
}

module _ (pages : Pages) (page i : ℕ) (at : CellAt) (cells : List PlacedCell) (way : IsOnWay pages page i (Some at) cells) where
  pub there : There pages at way.rest
  there = there_at pages at way.rest way.here way.maps

  -- the file has the page where this cell has it
  pub way_found : places_in there.mapped.value page ≢ Absent → places_of cells page ≡ places_in there.mapped.value page
  way_found some =
      way.same ∙ ap (λ rest. places_of rest page) there.all ∙ first_places there.c there.cs page
      ∙ ap (λ x. over x (places_of there.cs page)) (cell_places there.c.cell there.mapped.value page there.mapped.map)
      ∙ over_some (places_in there.mapped.value page) (places_of there.cs page) some
    where
      over_some : (x y : PagePlace) → x ≢ Absent → over x y ≡ x
      over_some Absent y some = absurd (some refl)
      over_some (At home) y some = refl
      over_some Hole y some = refl

  -- and else goes on
  pub way_on : IsNumbered at → places_in there.mapped.value page ≡ Absent → IsOnWay pages page (i + 1) there.c.cell.head.next cells
  way_on numbered none = record {
    passed = way.passed ++ there.c ∷ [];
    rest = there.cs;
    all = way.all ∙ ap (λ (cs : List PlacedCell). way.passed ++ cs) there.all ∙ sym (append_assoc way.passed (there.c ∷ []) there.cs);
    count = omega (arith, length-append way.passed (there.c ∷ []), way.count);
    numbered = all_push way.passed there.c way.numbered (subst IsNumbered (sym there.is_at) numbered);
    here = rest_of pages there.c.cell.head there.cs there.follow;
    maps = there.maps;
    same = way.same ∙ ap (λ rest. places_of rest page) there.all ∙ first_places there.c there.cs page
        ∙ ap (λ x. over x (places_of there.cs page)) (cell_places there.c.cell there.mapped.value page there.mapped.map ∙ none);
  }

pub way_ends : (pages : Pages) (page i : ℕ) (cells : List PlacedCell) → IsOnWay pages page i None cells → places_of cells page ≡ Absent
way_ends pages page i cells way = way.same ∙ ap (λ rest. places_of rest page) way.here

-- ---- no walk is longer than there are cells

same_key : (a b : CellAt) → IsNumbered a → IsNumbered b → key_of a ≡ key_of b → a ≡ b
same_key a b number_a number_b same =
    let keyed_a : IsKeyed a = record { page = number_a.page; cell = number_a.cell } in
    let keyed_b : IsKeyed b = record { page = number_b.page; cell = number_b.cell } in
    addresses_same a b keyed_a keyed_b same

keys_apart : (c : PlacedCell) (cs : List PlacedCell) → IsNumbered c.at → AllByRecursion (λ (c : PlacedCell). IsNumbered c.at) cs → ¬ Contains (places cs) c.at → AllByRecursion (λ k. nat_eq (key_of c.at) k ≡ false) (map (λ (c : PlacedCell). key_of c.at) cs)
keys_apart c [] own all apart = tt
keys_apart c (d ∷ cs) own all apart = (
  ne_eqb (key_of c.at) (key_of d.at) (λ same. apart (0, omega arith, sym (same_key c.at d.at own all.0 same))),
  keys_apart c cs own all.1 (λ there. apart (suc there.0, omega (arith, there.1), there.2)),
)

keys_distinct : (cs rest : List PlacedCell) → AreDistinct (cs ++ rest) → AllByRecursion (λ (c : PlacedCell). IsNumbered c.at) cs → IsDistinct nat_eq (map (λ (c : PlacedCell). key_of c.at) cs)
unfolding IsDistinct
keys_distinct [] rest distinct all = tt
keys_distinct (c ∷ cs) rest distinct all = (keys_apart c cs all.0 all.1 (λ inside. distinct.0 (contains_front cs inside)), keys_distinct cs rest distinct.1 all.1)
  where
    contains_front : (cs : List PlacedCell) → Contains (places cs) c.at → Contains (places (cs ++ rest)) c.at
    contains_front [] inside = absurd (omega (arith, inside.1))
    contains_front (d ∷ cs) (zero, within, is) = (0, omega arith, is)
    contains_front (d ∷ cs) (suc k, within, is) = let later = contains_front cs (k, omega (arith, within), is) in (suc later.0, omega (arith, later.1), later.2)

keys_below : (cs : List PlacedCell) → AllByRecursion (λ (c : PlacedCell). IsNumbered c.at) cs → (q : ℕ) → list_any (nat_eq q) (map (λ (c : PlacedCell). key_of c.at) cs) ≡ true → q < 9895604649984
keys_below [] all q any = absurd (true≢false (sym any))
keys_below (c ∷ cs) all q any = ⊎_elim
    (λ here. let number = all.0 in let vol = number.vol in let page = number.page in let cell = number.cell in omega (arith, eqb-true q (key_of c.at) here, vol, page, cell))
    (λ later. keys_below cs all.1 q later)
    (or_cases (nat_eq q (key_of c.at)) (list_any (nat_eq q) (map (λ (c : PlacedCell). key_of c.at) cs)) any)

-- a walk has passed fewer cells than there are
pub walk_short : (passed rest : List PlacedCell) → AreDistinct (passed ++ rest) → AllByRecursion (λ (c : PlacedCell). IsNumbered c.at) passed → length passed ≤ 9895604649984
walk_short passed rest distinct numbered =
    omega (
      arith,
      length-map passed (λ (c : PlacedCell). key_of c.at),
      length-le_from_distinct_below (map (λ (c : PlacedCell). key_of c.at) passed) 9895604649984 (keys_distinct passed rest distinct numbered) (keys_below passed numbered),
    )

pub distinct_file : (pages : Pages) (start : CellAt) (cells : List PlacedCell) → IsFile pages start cells → AreDistinct cells
distinct_file pages start [] is = tt
distinct_file pages start (first ∷ rest) is = is.1.links.distinct

pub way_short : (pages : Pages) (page i : ℕ) (next : Option CellAt) (start : CellAt) (cells : List PlacedCell) → IsFile pages start cells → IsOnWay pages page i next cells → i ≤ 9895604649984
way_short pages page i next start cells is way =
    omega (arith, way.count, walk_short way.passed way.rest (subst AreDistinct way.all (distinct_file pages start cells is)) way.numbered)
