-- Runs have pages exactly where the records of cells say that these stand.
use Rattle.std.proofs.Common.{◌≡◌, ◌∙◌, ◌⊎◌, ◌↔◌, ◌&&◌, ◌==◌, ℕ, ◌+◌, ◌-◌, ◌<◌, ◌≤◌, Bool, true, false, cond, nat_le, nat_lt, List, [], ◌∷◌, ◌++◌, Contains, length, zero, suc, inl, inr, refl, sym, ap, subst, arith, ⊎_elim, eqb-true, eq-eqb}
use Rattle.std.specs.List.{AllByRecursion, flat_map}
use Rattle.std.proofs.lemmas.Bool.{and_parts, leb-true, le-leb, ltb-true, lt-ltb}
use Rattle.std.proofs.lemmas.List.Elements.{Contains-append_cases, Contains-append_left, Contains-append_right}
use Rattle.metadata_cells.specs.domain_base.declared.place.CellAt.{CellAt}
use Rattle.metadata_cells.specs.domain_base.declared.place.Home.{Home}
use Rattle.metadata_cells.specs.page_store.Pages.{Pages}
use Rattle.metadata_cells.specs.cell_records.Records.{Allowed}
use Rattle.metadata_cells.specs.cell_records.declared.record.ExtentField.{ExtentField}
use Rattle.metadata_cells.specs.cell_records.declared.record.HoleField.{HoleField}
use Rattle.metadata_cells.specs.cell_records.declared.record.Record.{Record}
use Rattle.metadata_cells.specs.cell_records.declared.record.Record.TheVariants as written
use Rattle.metadata_cells.specs.Cell.{Cell}
use Rattle.metadata_cells.specs.Chain.{StandsAt}
use Rattle.extent_records.specs.extent_maps.Runs.{covers, place_of}
use Rattle.extent_records.specs.extent_maps.declared.run.PagePlace.{PagePlace}
use Rattle.extent_records.specs.extent_maps.declared.run.PagePlace.TheVariants.{Absent, At, Hole}
use Rattle.extent_records.specs.extent_maps.declared.run.Run.{Run}
use Rattle.extent_records.specs.Rows as rows
use Rattle.extent_records.specs.Rows.{NoPageTwice, hole_run, run_of, times}
use Rattle.extent_records.specs.Writing.{places_in}
use Rattle.extent_records.proofs.PutLemmas.{times_append}
use Rattle.cell_chains.specs.Reading.{HasOneMap, IsRunAt, SaysPlace, rows_in, runs_at, runs_from, runs_in}
use Rattle.cell_chains.specs.Runs.{HasAt, IsPageOf, home_in}
use Rattle.cell_chains.specs.declared.run.FileRun.{FileRun}
use Rattle.cell_chains.proofs.ReadRuns.{in_rows, map_runs}

no_bool : false ≡ true → ⊥
no_bool e = cc

same_at : (a b : Home) → At a ≡ At b → a ≡ b
same_at a b e = cc

absent_at : (home : Home) → Absent ≡ At home → ⊥
absent_at home e = cc

hole_at : (home : Home) → Hole ≡ At home → ⊥
hole_at home e = cc

-- ---- rows

-- a page is one of a row's
abbrev InRow : ExtentField → ℕ → Type 0
InRow row page = (row.page ≤ page) × (page < row.page + row.count)

abbrev stands_at : ExtentField → ℕ → Home
stands_at row page = record { vol = row.vol; page = row.first + (page - row.page) }

record RowHas (all : List ExtentField) (page : ℕ) (home : Home) : Type 0 where
  row : ExtentField
  among : Contains all row
  some : ¬ row.count ≡ 0
  within : InRow row page
  at : stands_at row page ≡ home

later_row : (x : ExtentField) (xs : List ExtentField) (page : ℕ) (home : Home) → RowHas xs page home → RowHas (x ∷ xs) page home
later_row x xs page home has = let (k, inside, is) = has.among in record { row = has.row; among = (suc k, omega (arith, inside), is); some = has.some; within = has.within; at = has.at }

abbrev first_place : ExtentField → List Run → ℕ → Bool → PagePlace
first_place row more page b = cond b (At (stands_at row page)) (place_of more page)

abbrev row_place : ExtentField → List Run → ℕ → Bool → PagePlace
row_place row more page b = place_of (cond b [] (run_of row ∷ []) ++ more) page

by_cover : (row : ExtentField) (xs : List ExtentField) (page : ℕ) (home : Home) (b : Bool) → covers (run_of row) page ≡ b → ¬ row.count ≡ 0 → (place_of (map_runs xs) page ≡ At home → RowHas xs page home)
    → first_place row (map_runs xs) page b ≡ At home → RowHas (row ∷ xs) page home
by_cover row xs page home true in_it some later is =
    let both = and_parts (nat_le row.page page) (nat_lt page (row.page + row.count)) in_it in
    record { row = row; among = (0, omega arith, refl); some = some; within = (leb-true row.page page both.0, ltb-true page (row.page + row.count) both.1); at = same_at (stands_at row page) home is }
by_cover row xs page home false out some later is = later_row row xs page home (later is)

by_used : (row : ExtentField) (xs : List ExtentField) (page : ℕ) (home : Home) (b : Bool) → (row.count == 0) ≡ b → (place_of (map_runs xs) page ≡ At home → RowHas xs page home)
    → row_place row (map_runs xs) page b ≡ At home → RowHas (row ∷ xs) page home
by_used row xs page home true none later is = later_row row xs page home (later is)
by_used row xs page home false used later is = by_cover row xs page home (covers (run_of row) page) refl (λ zero_there. no_bool (sym used ∙ eq-eqb row.count 0 zero_there)) later is

row_of_place : (all : List ExtentField) (page : ℕ) (home : Home) → place_of (map_runs all) page ≡ At home → RowHas all page home
row_of_place [] page home is = absurd (absent_at home is)
row_of_place (row ∷ xs) page home is = by_used row xs page home (row.count == 0) refl (λ later. row_of_place xs page home later) is

-- ---- rows and runs

abbrev row_first : CellAt → ExtentField → List FileRun → Bool → List FileRun
row_first at row more b = cond b more ((record { at = at; row = row }) ∷ more)

put_step : (at : CellAt) (x : ExtentField) (xs : List ExtentField) (row : ExtentField) (b : Bool) → (x.count == 0) ≡ b → ¬ row.count ≡ 0 → (Contains xs row → Contains (runs_at at xs) (record { at = at; row = row })) → Contains (x ∷ xs) row
    → Contains (row_first at x (runs_at at xs) b) (record { at = at; row = row })
put_step at x xs row true none some later (zero, within, is) = absurd (some (subst (λ (r : ExtentField). r.count ≡ 0) is (eqb-true x.count 0 none)))
put_step at x xs row true none some later (suc k, within, is) = later (k, omega (arith, within), is)
put_step at x xs row false used some later (zero, within, is) = (0, omega arith, (λ i. record { at = at; row = is i }))
put_step at x xs row false used some later (suc k, within, is) = let (j, inside, e) = later (k, omega (arith, within), is) in (suc j, omega (arith, inside), e)

put_in : (at : CellAt) (xs : List ExtentField) (row : ExtentField) → ¬ row.count ≡ 0 → Contains xs row → Contains (runs_at at xs) (record { at = at; row = row })
put_in at [] row some (k, within, is) = absurd (omega (arith, within))
put_in at (x ∷ xs) row some among = put_step at x xs row (x.count == 0) refl some (λ later. put_in at xs row some later) among

-- a row that has pages
abbrev IsUsed : List ExtentField → ExtentField → Type 0
IsUsed xs row = Contains xs row × ¬ row.count ≡ 0

later_used : (x : ExtentField) (xs : List ExtentField) (row : ExtentField) → IsUsed xs row → IsUsed (x ∷ xs) row
later_used x xs row ((k, within, is), some) = ((suc k, omega (arith, within), is), some)

of_step : (at : CellAt) (x : ExtentField) (xs : List ExtentField) (run : FileRun) (b : Bool) → (x.count == 0) ≡ b → (Contains (runs_at at xs) run → IsUsed xs run.row) → Contains (row_first at x (runs_at at xs) b) run → IsUsed (x ∷ xs) run.row
of_step at x xs run true none later among = later_used x xs run.row (later among)
of_step at x xs run false used later (zero, within, is) =
    let same : x ≡ run.row = ap (λ (r : FileRun). r.row) is in
    ((0, omega arith, same), (λ zero_there. no_bool (sym used ∙ eq-eqb x.count 0 (subst (λ (r : ExtentField). r.count ≡ 0) (sym same) zero_there))))
of_step at x xs run false used later (suc k, within, is) = later_used x xs run.row (later (k, omega (arith, within), is))

of_runs : (at : CellAt) (xs : List ExtentField) (run : FileRun) → Contains (runs_at at xs) run → IsUsed xs run.row
of_runs at [] run (k, within, is) = absurd (omega (arith, within))
of_runs at (x ∷ xs) run among = of_step at x xs run (x.count == 0) refl (λ later. of_runs at xs run later) among

-- ---- where no page is in two rows, a page of one stands where that says

any_cell : CellAt
any_cell = record { vol = 0; page = 0; cell = 0 }

one_times : (xs : List ExtentField) (row : ExtentField) (page : ℕ) → Contains xs row → ¬ row.count ≡ 0 → InRow row page → 1 ≤ times (map_runs xs) page
one_times xs row page among some within = (in_rows any_cell xs (record { at = any_cell; row = row }) page (put_in any_cell xs row some among) within).1

covered : (row : ExtentField) (page : ℕ) → InRow row page → covers (run_of row) page ≡ true
covered row page within = λ i. le-leb row.page page within.0 i && lt-ltb page (row.page + row.count) within.1 i

-- the first of the rows has pages, and another one has this page
past_cover : (x : ExtentField) (xs : List ExtentField) (row : ExtentField) (page : ℕ) (b : Bool) → covers (run_of x) page ≡ b → cond b 1 0 + times (map_runs xs) page ≤ 1 → 1 ≤ times (map_runs xs) page
    → place_of (map_runs xs) page ≡ At (stands_at row page) → first_place x (map_runs xs) page b ≡ At (stands_at row page)
past_cover x xs row page true in_it once some later = absurd (omega (arith, once, some))
past_cover x xs row page false out once some later = later

at_step : (x : ExtentField) (xs : List ExtentField) (row : ExtentField) (page : ℕ) (b : Bool) → (x.count == 0) ≡ b → times (cond b [] (run_of x ∷ []) ++ map_runs xs) page ≤ 1 → ¬ row.count ≡ 0 → InRow row page
    → (times (map_runs xs) page ≤ 1 → Contains xs row → place_of (map_runs xs) page ≡ At (stands_at row page)) → Contains (x ∷ xs) row → row_place x (map_runs xs) page b ≡ At (stands_at row page)
at_step x xs row page true none once some within later (zero, inside, is) = absurd (some (subst (λ (r : ExtentField). r.count ≡ 0) is (eqb-true x.count 0 none)))
at_step x xs row page true none once some within later (suc k, inside, is) = later once (k, omega (arith, inside), is)
at_step x xs row page false used once some within later (zero, inside, is) =
    let here : InRow x page = subst (λ (r : ExtentField). InRow r page) (sym is) within in
    ap (first_place x (map_runs xs) page) (covered x page here) ∙ ap (λ (r : ExtentField). At (stands_at r page)) is
at_step x xs row page false used once some within later (suc k, inside, is) =
    let among : Contains xs row = (k, omega (arith, inside), is) in
    let more : 1 ≤ times (map_runs xs) page = one_times xs row page among some within in
    past_cover x xs row page (covers (run_of x) page) refl once more (later (omega (arith, once)) among)

place_of_row : (xs : List ExtentField) (row : ExtentField) (page : ℕ) → ¬ row.count ≡ 0 → InRow row page → times (map_runs xs) page ≤ 1 → Contains xs row → place_of (map_runs xs) page ≡ At (stands_at row page)
place_of_row [] row page some within once (k, inside, is) = absurd (omega (arith, inside))
place_of_row (x ∷ xs) row page some within once among = at_step x xs row page (x.count == 0) refl once some within (λ fewer later. place_of_row xs row page some within fewer later) among

-- ---- records

hole_step : (h : HoleField) (hs : List HoleField) (page : ℕ) (home : Home) (b c : Bool) → (place_of (flat_map rows.holes_at hs) page ≡ At home → ⊥) → cond b (place_of (flat_map rows.holes_at hs) page) (cond c Hole (place_of (flat_map rows.holes_at hs) page)) ≡ At home → ⊥
hole_step h hs page home true c later is = later is
hole_step h hs page home false true later is = hole_at home is
hole_step h hs page home false false later is = later is

abbrev hole_place : HoleField → List Run → ℕ → Bool → PagePlace
hole_place h more page b = place_of (cond b [] (hole_run h ∷ []) ++ more) page

hole_first : (h : HoleField) (hs : List HoleField) (page : ℕ) (home : Home) (b : Bool) → (place_of (flat_map rows.holes_at hs) page ≡ At home → ⊥) → hole_place h (flat_map rows.holes_at hs) page b ≡ At home → ⊥
hole_first h hs page home true later is = later is
hole_first h hs page home false later is = hole_step h hs page home false (covers (hole_run h) page) later is

no_hole : (hs : List HoleField) (page : ℕ) (home : Home) → place_of (flat_map rows.holes_at hs) page ≡ At home → ⊥
no_hole [] page home is = absent_at home is
no_hole (h ∷ hs) page home is = hole_first h hs page home (h.count == 0) (λ later. no_hole hs page home later) is

row_of_record : (value : Record) (page : ℕ) (home : Home) → places_in value page ≡ At home → RowHas (rows_in value) page home
row_of_record (written.Extents all) page home is = row_of_place all page home is
row_of_record (written.ShortExtents all) page home is = row_of_place all page home is
row_of_record (written.DenseExtents all) page home is = row_of_place all page home is
row_of_record (written.ShortDense all) page home is = row_of_place all page home is
row_of_record (written.Holes all) page home is = absurd (no_hole all page home is)
row_of_record _ page home is = absurd (absent_at home is)

record_of_row : (value : Record) (row : ExtentField) (page : ℕ) → ¬ row.count ≡ 0 → InRow row page → times (rows.runs_in value) page ≤ 1 → Contains (rows_in value) row → places_in value page ≡ At (stands_at row page)
record_of_row (written.Extents all) row page some within once among = place_of_row all row page some within once among
record_of_row (written.ShortExtents all) row page some within once among = place_of_row all row page some within once among
record_of_row (written.DenseExtents all) row page some within once among = place_of_row all row page some within once among
record_of_row (written.ShortDense all) row page some within once among = place_of_row all row page some within once among
record_of_row _ row page some within once (k, inside, is) = absurd (omega (arith, inside))

-- the record of a run, and how often its pages are said
record RecordOf (at : CellAt) (records : List Record) (run : FileRun) : Type 0 where
  value : Record
  among : Contains records value
  has : Contains (runs_in at value) run
  few : (page : ℕ) → times (rows.runs_in value) page ≤ times (rows.runs_of records) page

record_of : (at : CellAt) (records : List Record) (run : FileRun) → Contains (runs_from at records) run → RecordOf at records run
record_of at [] run (k, within, is) = absurd (omega (arith, within))
record_of at (r ∷ rs) run among =
    ⊎_elim (λ here. record { value = r; among = (0, omega arith, refl); has = here; few = λ page. omega (arith, times_append (rows.runs_in r) (rows.runs_of rs) page) })
    (λ there.
    let later = record_of at rs run there in
    let (k, within, is) = later.among in
    record {
      value = later.value;
      among = (suc k, omega (arith, within), is);
      has = later.has;
      few = λ page. omega (arith, later.few page, times_append (rows.runs_in r) (rows.runs_of rs) page);
    })
    (Contains-append_cases (runs_in at r) (runs_from at rs) run among)

from_record : (at : CellAt) (records : List Record) (value : Record) (run : FileRun) → Contains records value → Contains (runs_in at value) run → Contains (runs_from at records) run
from_record at [] value run (k, within, is) has = absurd (omega (arith, within))
from_record at (r ∷ rs) value run (zero, within, is) has = Contains-append_left (runs_in at r) (runs_from at rs) run (subst (λ (v : Record). Contains (runs_in at v) run) (sym is) has)
from_record at (r ∷ rs) value run (suc k, within, is) has = Contains-append_right (runs_in at r) (runs_from at rs) run (from_record at rs value run (k, omega (arith, within), is) has)

-- ---- cells

pub said_at : (pages : Pages) (at : CellAt) → HasOneMap pages at → (page : ℕ) (home : Home) → ((run : FileRun) × IsRunAt pages run at × HasAt run at page home) ↔ SaysPlace pages at page home
said_at pages at one page home = (
  λ (run, (cell, stands, among), (same, within, there)).
      let from = record_of at cell.records run among in
      let used = of_runs at (rows_in from.value) run from.has in
      let once : times (rows.runs_in from.value) page ≤ 1 = omega (arith, from.few page, one cell stands page) in
      (cell, stands, (from.value, from.among, record_of_row from.value run.row page used.1 within once used.0 ∙ ap (λ (h : Home). At h) there)),
  λ (cell, stands, (value, among, says)).
      let has = row_of_record value page home says in
      let run : FileRun = record { at = at; row = has.row } in
      (run, (cell, stands, from_record at cell.records value run among (put_in at (rows_in value) has.row has.some has.among)), (refl, has.within, has.at)),
)
