-- The runs of cells, and that no two of them have one page of one cell.
use Rattle.std.proofs.Common.{Some, take, add-one, ◌≡◌, ◌∙◌, ◌⊎◌, ◌↔◌, ◌&&◌, ◌==◌, ℕ, ◌+◌, ◌<◌, ◌≤◌, Bool, true, false, cond, nat_le, nat_lt, nat_eq, List, [], ◌∷◌, ◌++◌, Contains, get_or, length, zero, suc, inl, inr, refl, sym, ap, subst, arith, ⊎_elim, eq-eqb, append_assoc}
use Rattle.std.specs.List.{AllByRecursion, flat_map}
use Rattle.std.proofs.lemmas.Bool.{le-leb, lt-ltb}
use Rattle.std.proofs.Math.Seq.{take-suc}
use Rattle.std.proofs.lemmas.Grind.{flat_map-append}
use Rattle.std.proofs.lemmas.List.{append-nil}
use Rattle.std.proofs.lemmas.List.Elements.{Contains-append_cases, Contains-append_left, Contains-append_right}
use Rattle.metadata_cells.specs.domain_base.declared.place.CellAt.{CellAt}
use Rattle.metadata_cells.specs.page_store.Pages.{Pages}
use Rattle.metadata_cells.specs.cell_records.declared.record.ExtentField.{ExtentField}
use Rattle.metadata_cells.specs.cell_records.declared.record.HoleField.{HoleField}
use Rattle.metadata_cells.specs.cell_records.declared.record.Record.{Record}
use Rattle.metadata_cells.specs.cell_records.declared.record.Record.TheVariants as written
use Rattle.metadata_cells.specs.Cell.{Cell}
use Rattle.metadata_cells.specs.Chain.{StandsAt}
use Rattle.metadata_cells.proofs.Unique.{one_stands}
use Rattle.extent_records.specs.extent_maps.Runs.{covers, end_of}
use Rattle.extent_records.specs.extent_maps.declared.run.Run.{Run}
use Rattle.extent_records.specs.Rows as rows
use Rattle.extent_records.specs.Rows.{NoPageTwice, run_of, runs_of, times}
use Rattle.extent_records.proofs.PutLemmas.{times_append}
use Rattle.cell_chains.specs.Reading.{AreElsewhere, ArePut, HasOneMap, IsRunAt, rows_in, runs_at, runs_from, runs_in}
use Rattle.cell_chains.specs.Runs.{Apart, AreApart, IsPageOf}
use Rattle.cell_chains.specs.declared.run.FileRun.{FileRun}
use Rattle.cell_chains.proofs.CountRuns.{all_at}
use Rattle.metadata_cells.specs.Chain.{key_of}
use Rattle.metadata_cells.specs.sorted_sets.Rising.{IsRising, value_at}
use Rattle.metadata_cells.proofs.OfSortedSets.Search.{value-present}
use Rattle.cell_chains.specs.Links.{IsInUse, cells_of}
use Rattle.cell_chains.specs.Order.{AreNumbered}
use Rattle.cell_chains.specs.declared.links.CellLinks.{CellLinks}
use Rattle.cell_chains.proofs.Each.{Entry}

-- ---- lists

rows_first : (at : CellAt) (row : ExtentField) (xs ys : List ExtentField) (b : Bool) → runs_at at (xs ++ ys) ≡ runs_at at xs ++ runs_at at ys
    → cond b (runs_at at (xs ++ ys)) ((record { at = at; row = row }) ∷ runs_at at (xs ++ ys)) ≡ cond b (runs_at at xs) ((record { at = at; row = row }) ∷ runs_at at xs) ++ runs_at at ys
rows_first at row xs ys true later = later
rows_first at row xs ys false later = let first : FileRun = record { at = at; row = row } in ap (λ (l : List FileRun). first ∷ l) later

pub rows_both : (at : CellAt) (xs ys : List ExtentField) → runs_at at (xs ++ ys) ≡ runs_at at xs ++ runs_at at ys
rows_both at [] ys = refl
rows_both at (x ∷ xs) ys = rows_first at x xs ys (x.count == 0) (rows_both at xs ys)

pub records_more : (at : CellAt) (xs : List Record) (x : Record) → runs_from at (xs ++ x ∷ []) ≡ runs_from at xs ++ runs_in at x
records_more at xs x = flat_map-append (runs_in at) xs (x ∷ []) ∙ ap (λ (l : List FileRun). runs_from at xs ++ l) (append-nil (runs_in at x))

-- with one more row, and with one more record
pub one_row : (at : CellAt) (all : List ExtentField) (k : ℕ) (d : ExtentField) (first old new : List FileRun) → k < length all → old ≡ first ++ runs_at at (take k all) → new ≡ old ++ runs_at at (get_or all k d ∷ [])
    → new ≡ first ++ runs_at at (take (k + 1) all)
one_row at all k d first old new within before more =
    let longer : take (k + 1) all ≡ take k all ++ get_or all k d ∷ [] = ap (λ n. take n all) (add-one k) ∙ take-suc all k d within in
    more ∙ ap (λ (l : List FileRun). l ++ runs_at at (get_or all k d ∷ [])) before ∙ append_assoc first (runs_at at (take k all)) (runs_at at (get_or all k d ∷ []))
    ∙ ap (λ (l : List FileRun). first ++ l) (sym (rows_both at (take k all) (get_or all k d ∷ [])) ∙ ap (runs_at at) (sym longer))

pub one_record_more : (at : CellAt) (all : List Record) (k : ℕ) (d : Record) (first old new : List FileRun) → k < length all → old ≡ first ++ runs_from at (take k all) → new ≡ old ++ runs_in at (get_or all k d)
    → new ≡ first ++ runs_from at (take (k + 1) all)
one_record_more at all k d first old new within before more =
    let longer : take (k + 1) all ≡ take k all ++ get_or all k d ∷ [] = ap (λ n. take n all) (add-one k) ∙ take-suc all k d within in
    more ∙ ap (λ (l : List FileRun). l ++ runs_in at (get_or all k d)) before ∙ append_assoc first (runs_from at (take k all)) (runs_in at (get_or all k d))
    ∙ ap (λ (l : List FileRun). first ++ l) (sym (records_more at (take k all) (get_or all k d)) ∙ ap (runs_from at) (sym longer))

all_from : (P : FileRun → Type 0) (runs : List FileRun) → ((run : FileRun) → Contains runs run → P run) → AllByRecursion P runs
all_from P [] each = tt
all_from P (x ∷ xs) each = (each x (0, omega arith, refl), all_from P xs (λ run (k, within, at). each run (suc k, omega (arith, within), at)))

apart_both : (xs ys : List FileRun) → AreApart xs → AreApart ys → ((x y : FileRun) → Contains xs x → Contains ys y → Apart x y) → AreApart (xs ++ ys)
apart_both [] ys apart also between = also
apart_both (x ∷ xs) ys apart also between = (
  all_from (Apart x) (xs ++ ys) (λ y among. ⊎_elim (λ here. all_at (Apart x) xs y apart.0 here) (λ there. between x y (0, omega arith, refl) there) (Contains-append_cases xs ys y among)),
  apart_both xs ys apart.1 also (λ z y (k, within, at) in_y. between z y (suc k, omega (arith, within), at) in_y),
)

-- ---- rows

-- a row that has a page counts one for it
counts_one : (row : ExtentField) (more : List Run) (p : ℕ) → row.page ≤ p → p < row.page + row.count → times (run_of row ∷ more) p ≡ 1 + times more p
counts_one row more p from to = λ i. cond (le-leb row.page p from i && lt-ltb p (row.page + row.count) to i) 1 0 + times more p

abbrev pub map_runs : List ExtentField → List Run
map_runs rows_of = flat_map rows.runs_at rows_of

abbrev run_first : ExtentField → List Run → Bool → List Run
run_first row more b = cond b [] (run_of row ∷ []) ++ more

abbrev row_first : CellAt → ExtentField → List FileRun → Bool → List FileRun
row_first at row more b = cond b more ((record { at = at; row = row }) ∷ more)

rows_step : (at : CellAt) (row : ExtentField) (more : List ExtentField) (run : FileRun) (p : ℕ) (b : Bool) → IsPageOf run p → (Contains (runs_at at more) run → (run.at ≡ at) × (1 ≤ times (map_runs more) p))
    → Contains (row_first at row (runs_at at more) b) run → (run.at ≡ at) × (1 ≤ times (run_first row (map_runs more) b) p)
rows_step at row more run p true page later among = later among
rows_step at row more run p false page later (zero, within, is) =
    let here : IsPageOf (record { at = at; row = row }) p = subst (λ (r : FileRun). IsPageOf r p) (sym is) page in
    (sym (ap (λ (r : FileRun). r.at) is), (let sum = counts_one row (map_runs more) p here.0 here.1 in omega (arith, sum)))
rows_step at row more run p false page later (suc k, within, is) =
    let rest = later (k, omega (arith, within), is) in (rest.0, (let some : 1 ≤ times (map_runs more) p = rest.1 in omega (arith, some)))

pub in_rows : (at : CellAt) (all : List ExtentField) (run : FileRun) (p : ℕ) → Contains (runs_at at all) run → IsPageOf run p → (run.at ≡ at) × (1 ≤ times (map_runs all) p)
in_rows at [] run p (k, within, is) page = absurd (omega (arith, within))
in_rows at (row ∷ more) run p among page = rows_step at row more run p (row.count == 0) page (λ rest. in_rows at more run p rest page) among

apart_step : (at : CellAt) (row : ExtentField) (more : List ExtentField) (b : Bool) → ((p : ℕ) → times (run_first row (map_runs more) b) p ≤ 1) → (((p : ℕ) → times (map_runs more) p ≤ 1) → AreApart (runs_at at more))
    → AreApart (row_first at row (runs_at at more) b)
apart_step at row more true once later = later once
apart_step at row more false once later = (
  all_from (Apart (record { at = at; row = row })) (runs_at at more) (λ other among p page also same.
      let some : 1 ≤ times (map_runs more) p = (in_rows at more other p among also).1 in
      let sum = counts_one row (map_runs more) p page.0 page.1 in
      let most : times (run_of row ∷ map_runs more) p ≤ 1 = once p in
      omega (arith, some, sum, most)),
  later (λ p. let most : times (run_of row ∷ map_runs more) p ≤ 1 = once p in omega (arith, most)),
)

apart_rows : (at : CellAt) (all : List ExtentField) → ((p : ℕ) → times (map_runs all) p ≤ 1) → AreApart (runs_at at all)
apart_rows at [] once = tt
apart_rows at (row ∷ more) once = apart_step at row more (row.count == 0) once (λ rest. apart_rows at more rest)

-- ---- records

no_run : (run : FileRun) → ¬ Contains [] run
no_run run (k, within, is) = omega (arith, within)

pub in_record : (at : CellAt) (value : Record) (run : FileRun) (p : ℕ) → Contains (runs_in at value) run → IsPageOf run p → (run.at ≡ at) × (1 ≤ times (rows.runs_in value) p)
in_record at (written.Extents all) run p among page = in_rows at all run p among page
in_record at (written.ShortExtents all) run p among page = in_rows at all run p among page
in_record at (written.DenseExtents all) run p among page = in_rows at all run p among page
in_record at (written.ShortDense all) run p among page = in_rows at all run p among page
in_record at _ run p among page = absurd (no_run run among)

pub in_records : (at : CellAt) (records : List Record) (run : FileRun) (p : ℕ) → Contains (runs_from at records) run → IsPageOf run p → (run.at ≡ at) × (1 ≤ times (runs_of records) p)
in_records at [] run p among page = absurd (no_run run among)
in_records at (r ∷ rs) run p among page =
    let sum = times_append (rows.runs_in r) (runs_of rs) p in
    ⊎_elim (λ here. let one = in_record at r run p here page in (one.0, (let some : 1 ≤ times (rows.runs_in r) p = one.1 in omega (arith, some, sum))))
    (λ there. let one = in_records at rs run p there page in (one.0, (let some : 1 ≤ times (runs_of rs) p = one.1 in omega (arith, some, sum))))
    (Contains-append_cases (runs_in at r) (runs_from at rs) run among)

apart_record : (at : CellAt) (value : Record) → ((p : ℕ) → times (rows.runs_in value) p ≤ 1) → AreApart (runs_in at value)
apart_record at (written.Extents all) once = apart_rows at all once
apart_record at (written.ShortExtents all) once = apart_rows at all once
apart_record at (written.DenseExtents all) once = apart_rows at all once
apart_record at (written.ShortDense all) once = apart_rows at all once
apart_record at _ once = tt

apart_records : (at : CellAt) (records : List Record) → ((p : ℕ) → times (runs_of records) p ≤ 1) → AreApart (runs_from at records)
apart_records at [] once = tt
apart_records at (r ∷ rs) once =
    apart_both (runs_in at r) (runs_from at rs)
    (apart_record at r (λ p. omega (arith, once p, times_append (rows.runs_in r) (runs_of rs) p)))
    (apart_records at rs (λ p. omega (arith, once p, times_append (rows.runs_in r) (runs_of rs) p)))
    (λ x y in_x in_y p page also same.
    let first = (in_record at r x p in_x page).1 in
    let later = (in_records at rs y p in_y also).1 in
    omega (arith, first, later, once p, times_append (rows.runs_in r) (runs_of rs) p))

-- ---- whose the runs are

rows_at_step : (at : CellAt) (row : ExtentField) (more : List ExtentField) (run : FileRun) (b : Bool) → (Contains (runs_at at more) run → run.at ≡ at) → Contains (row_first at row (runs_at at more) b) run → run.at ≡ at
rows_at_step at row more run true later among = later among
rows_at_step at row more run false later (zero, within, is) = sym (ap (λ (r : FileRun). r.at) is)
rows_at_step at row more run false later (suc k, within, is) = later (k, omega (arith, within), is)

rows_at : (at : CellAt) (all : List ExtentField) (run : FileRun) → Contains (runs_at at all) run → run.at ≡ at
rows_at at [] run among = absurd (no_run run among)
rows_at at (row ∷ more) run among = rows_at_step at row more run (row.count == 0) (λ rest. rows_at at more run rest) among

record_at : (at : CellAt) (value : Record) (run : FileRun) → Contains (runs_in at value) run → run.at ≡ at
record_at at value run among = rows_at at (rows_in value) run among

pub records_at : (at : CellAt) (records : List Record) (run : FileRun) → Contains (runs_from at records) run → run.at ≡ at
records_at at [] run among = absurd (no_run run among)
records_at at (r ∷ rs) run among = ⊎_elim (λ here. record_at at r run here) (λ there. records_at at rs run there) (Contains-append_cases (runs_in at r) (runs_from at rs) run among)

-- ---- the runs of a cell, behind others

module _ (pages : Pages) (at : CellAt) (old : List FileRun) where
  pub are_put : (cell : Cell) (new : List FileRun) → StandsAt pages at cell → new ≡ old ++ runs_from at cell.records → ArePut pages at old new
  are_put cell new stands e = record {
    each = λ run. (
      λ among. ⊎_elim (λ was. inl was) (λ here. inr (cell, stands, here)) (Contains-append_cases old (runs_from at cell.records) run (subst (λ (l : List FileRun). Contains l run) e among)),
      λ which. subst (λ (l : List FileRun). Contains l run) (sym e) (⊎_elim (λ was. Contains-append_left old (runs_from at cell.records) run was)
          (λ (other, there, here). Contains-append_right old (runs_from at cell.records) run (subst (λ (c : Cell). Contains (runs_from at c.records) run) (sym (one_stands pages at cell other stands there)) here)) which),
    );
    apart = λ one elsewhere apart. subst AreApart (sym e) (apart_both old (runs_from at cell.records) apart (apart_records at cell.records (one cell stands))
        (λ x y in_x in_y p page also same. elsewhere x in_x (same ∙ records_at at cell.records y in_y)));
  }

  pub none_put : ((cell : Cell) → ¬ StandsAt pages at cell) → ArePut pages at old old
  none_put none = record {
    each = λ run. ((λ among. inl among), (λ which. ⊎_elim (λ was. was) (λ (cell, stands, here). absurd (none cell stands)) which));
    apart = λ one elsewhere apart. apart;
  }

-- ---- cells in use, one behind the other

module _ (lent : List Entry) (rising : IsRising lent) (numbered : AreNumbered lent) where
  stands_at : (k : ℕ) (entry : Entry) → k < length lent → get_or lent k entry ≡ entry → value_at lent entry.0 ≡ Some entry.1
  stands_at k entry within is = value-present lent rising entry.0 k entry within (ap (λ (a : Entry). a.0) is) ∙ ap (λ (a : Entry). Some a.1) is

  keyed : (k : ℕ) (entry : Entry) → k < length lent → get_or lent k entry ≡ entry → entry.0 ≡ key_of entry.1.0
  keyed k entry within is =
      (numbered entry.0 entry.1.0 entry.1.1 (stands_at k entry within is)).0

  pub used_at : (links : CellLinks) → lent ≡ cells_of links → (k : ℕ) (entry : Entry) → k < length lent → ((d : Entry) → get_or lent k d ≡ entry) → IsInUse links entry.1.0
  used_at links same k entry within is = (
    entry.1.1,
    subst (λ (l : List Entry). value_at l (key_of entry.1.0) ≡ Some entry.1) same
        (subst (λ n. value_at lent n ≡ Some entry.1) (keyed k entry within (is entry)) (stands_at k entry within (is entry))),
  )

  pub other_cells : (j k : ℕ) (one other : Entry) → j < k → k < length lent → get_or lent j one ≡ one → ((d : Entry) → get_or lent k d ≡ other) → ¬ one.1.0 ≡ other.1.0
  other_cells j k one other before within is_one is_other same =
      let first : one.0 ≡ key_of one.1.0 = keyed j one (omega (arith, before, within)) is_one in
      let second : other.0 ≡ key_of other.1.0 = keyed k other within (is_other other) in
      let keys : one.0 ≡ other.0 = first ∙ ap key_of same ∙ sym second in
      let rise : one.0 < other.0 = subst (λ (e : Entry). one.0 < e.0) (is_other one) (subst (λ (e : Entry). e.0 < (get_or lent k one).0) is_one (rising j k one before within)) in
      omega (arith, keys, rise)
