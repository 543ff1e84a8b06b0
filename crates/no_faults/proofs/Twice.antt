-- In a chain of cells nothing is said twice: neither of a page where it stands, nor of an owner.
use Rattle.std.proofs.Common.{◌≡◌, ◌∙◌, ◌⊎◌, ℕ, zero, suc, ◌+◌, ◌<◌, ◌≤◌, false, cond, nat_eq, List, [], ◌∷◌, ◌++◌, Option, Some, None, Contains, slice_get, refl, sym, ap, subst, arith, ⊎_elim}
use Rattle.std.proofs.lemmas.Bool.{true≢false}
use Rattle.std.proofs.lemmas.Grind.{flat_map-append}
use Rattle.std.proofs.lemmas.List.Elements.{Contains-append_left, Contains-append_right}
use Rattle.std.specs.List.{AllByRecursion, IsDistinct, cons_option}
use Rattle.domain_memory.specs.cell_records.Records.{kind_of}
use Rattle.domain_memory.specs.cell_records.declared.record.Record.{Record}
use Rattle.domain_memory.specs.cell_records.declared.record.Record.TheVariants as written
use Rattle.domain_memory.specs.metadata_cells.Cell.{id_of}
use Rattle.domain_memory.specs.metadata_cells.Chain.{PlacedCell, records_of}
use Rattle.domain_memory.specs.extent_maps.Runs.{place_of}
use Rattle.domain_memory.specs.extent_maps.declared.run.PagePlace.{PagePlace}
use Rattle.domain_memory.specs.extent_maps.declared.run.PagePlace.TheVariants.{Absent, At, Hole}
use Rattle.domain_memory.specs.extent_records.Rows.{runs_in, runs_of, there, times}
use Rattle.domain_memory.specs.extent_records.Writing.{places_in}
use Rattle.domain_memory.proofs.OfExtentRecords.ChainLemmas.{there_few}
use Rattle.domain_memory.proofs.OfExtentRecords.PutLemmas.{times_append}
use Rattle.domain_memory.specs.fileset_values.declared.command.Owner.{Owner}
use Rattle.domain_memory.specs.fileset_values.declared.command.Owner.TheVariants.{Group, User}
use Rattle.domain_memory.specs.fileset_model.declared.fileset.Limits.{Limits}
use Rattle.domain_memory.specs.quota_book.Owners.{same_owner}
use Rattle.domain_memory.specs.quota_book.QuotaCells.{AreOnce, limits_said, said_by}
use Rattle.domain_memory.proofs.OfQuotaBook.Shares.{itself}
use Rattle.domain_memory.proofs.OfDomainLayout.OnePage.{some_same}
use Rattle.no_faults.proofs.Ways.{nothing}

-- ---- lists

pub in_records : (cs : List PlacedCell) (k : ℕ) (c : PlacedCell) (r : Record) → slice_get cs k ≡ Some c → Contains c.cell.records r → Contains (records_of cs) r
in_records [] k c r is among = nothing c is
in_records (d ∷ ds) zero c r is among = Contains-append_left d.cell.records (records_of ds) r (subst (λ (x : PlacedCell). Contains x.cell.records r) (sym (some_same d c is)) among)
in_records (d ∷ ds) (suc k) c r is among = Contains-append_right d.cell.records (records_of ds) r (in_records ds k c r is among)

-- ---- pages

some_there : (x : PagePlace) → ¬ x ≡ Absent → 1 ≤ there x
some_there Absent other = absurd (other refl)
some_there (At home) other = omega arith
some_there Hole other = omega arith

page_times : (r : Record) (p : ℕ) → ¬ places_in r p ≡ Absent → 1 ≤ times (runs_in r) p
page_times r p some = omega (arith, some_there (place_of (runs_in r) p) some, there_few (runs_in r) p)

times_in : (rs : List Record) (r : Record) (p : ℕ) → Contains rs r → 1 ≤ times (runs_in r) p → 1 ≤ times (runs_of rs) p
times_in [] r p (k, within, is) some = absurd (omega (arith, within))
times_in (x ∷ xs) r p (zero, within, is) some =
    let here : 1 ≤ times (runs_in x) p = subst (λ y. 1 ≤ times (runs_in y) p) (sym is) some in
    omega (arith, here, times_append (runs_in x) (runs_of xs) p)
times_in (x ∷ xs) r p (suc k, within, is) some =
    let later = times_in xs r p (k, omega (arith, within), is) some in
    omega (arith, later, times_append (runs_in x) (runs_of xs) p)

cells_sum : (d : PlacedCell) (ds : List PlacedCell) (p : ℕ) → times (runs_of (records_of (d ∷ ds))) p ≡ times (runs_of d.cell.records) p + times (runs_of (records_of ds)) p
cells_sum d ds p = ap (λ runs. times runs p) (flat_map-append runs_in d.cell.records (records_of ds)) ∙ times_append (runs_of d.cell.records) (runs_of (records_of ds)) p

-- no two cells say of one page where it stands
pub no_page_twice : (cs : List PlacedCell) (p : ℕ) → times (runs_of (records_of cs)) p ≤ 1 → (j k : ℕ) (c e : PlacedCell) (one other : Record) → slice_get cs j ≡ Some c → slice_get cs k ≡ Some e → j < k
    → Contains c.cell.records one → Contains e.cell.records other → ¬ places_in one p ≡ Absent → ¬ places_in other p ≡ Absent → ⊥
no_page_twice [] p once j k c e one other at_j at_k less in_one in_other some also = nothing c at_j
no_page_twice (d ∷ ds) p once j zero c e one other at_j at_k less in_one in_other some also = omega (arith, less)
no_page_twice (d ∷ ds) p once zero (suc k) c e one other at_j at_k less in_one in_other some also =
    let first : 1 ≤ times (runs_of d.cell.records) p =
    times_in d.cell.records one p (subst (λ (x : PlacedCell). Contains x.cell.records one) (sym (some_same d c at_j)) in_one) (page_times one p some) in
    let later : 1 ≤ times (runs_of (records_of ds)) p = times_in (records_of ds) other p (in_records ds k e other at_k in_other) (page_times other p also) in
    omega (arith, first, later, cells_sum d ds p, once)
no_page_twice (d ∷ ds) p once (suc j) (suc k) c e one other at_j at_k less in_one in_other some also =
    no_page_twice ds p (omega (arith, cells_sum d ds p, once)) j k c e one other at_j at_k (omega (arith, less)) in_one in_other some also

-- a record of a kind without rows says of no page where it stands
pub limits_place : (r : Record) (p : ℕ) → (kind_of r ≡ 7) ⊎ (kind_of r ≡ 8) → places_in r p ≡ Absent
limits_place (written.Extents rows) p is = absurd (⊎_elim (λ e. omega (arith, e)) (λ e. omega (arith, e)) is)
limits_place (written.ShortExtents rows) p is = absurd (⊎_elim (λ e. omega (arith, e)) (λ e. omega (arith, e)) is)
limits_place (written.Holes rows) p is = absurd (⊎_elim (λ e. omega (arith, e)) (λ e. omega (arith, e)) is)
limits_place (written.DenseExtents rows) p is = absurd (⊎_elim (λ e. omega (arith, e)) (λ e. omega (arith, e)) is)
limits_place (written.ShortDense rows) p is = absurd (⊎_elim (λ e. omega (arith, e)) (λ e. omega (arith, e)) is)
limits_place _ p is = refl

-- ---- owners

abbrev owner_by : ℕ → ℕ → Owner
owner_by kind id = cond (nat_eq kind 7) (User id) (Group id)

says_owner : (r : Record) → (kind_of r ≡ 7) ⊎ (kind_of r ≡ 8) → (a : Owner × Limits) × (limits_said r ≡ Some a) × (a.0 ≡ owner_by (kind_of r) (id_of r))
says_owner (written.UserQuota id files blocks) is = ((User id, record { files = files; blocks = blocks }), refl, refl)
says_owner (written.GroupQuota id files blocks) is = ((Group id, record { files = files; blocks = blocks }), refl, refl)
says_owner _ is = absurd (⊎_elim (λ e. omega (arith, e)) (λ e. omega (arith, e)) is)

all_said : (P : Owner × Limits → Type 0) (rs : List Record) → AllByRecursion P (said_by rs) → (r : Record) (a : Owner × Limits) → Contains rs r → limits_said r ≡ Some a → P a
all_said P [] all r a (k, within, is) said = absurd (omega (arith, within))
all_said P (x ∷ xs) all r a (zero, within, is) said = (subst (λ o. AllByRecursion P (cons_option o (said_by xs))) (ap limits_said is ∙ said) all).0
all_said P (x ∷ xs) all r a (suc k, within, is) said = by_first (λ rest. all_said P xs rest r a (k, omega (arith, within), is) said) (limits_said x) all
  where
    by_first : (AllByRecursion P (said_by xs) → P a) → (o : Option (Owner × Limits)) → AllByRecursion P (cons_option o (said_by xs)) → P a
    by_first later None all = later all
    by_first later (Some b) all = later all.1

once_behind : (rs ss : List Record) → AreOnce (said_by (rs ++ ss)) → AreOnce (said_by ss)
unfolding IsDistinct
once_behind [] ss once = once
once_behind (r ∷ rs) ss once = by_first (once_behind rs ss) (limits_said r) once
  where
    by_first : (AreOnce (said_by (rs ++ ss)) → AreOnce (said_by ss)) → (o : Option (Owner × Limits)) → AreOnce (cons_option o (said_by (rs ++ ss))) → AreOnce (said_by ss)
    by_first later None once = later once
    by_first later (Some a) once = later once.1

apart_in : (rs ss : List Record) → AreOnce (said_by (rs ++ ss)) → (r s : Record) (a b : Owner × Limits) → Contains rs r → Contains ss s → limits_said r ≡ Some a → limits_said s ≡ Some b → same_owner a.0 b.0 ≡ false
unfolding IsDistinct
apart_in [] ss once r s a b (k, within, is) in_other said also = absurd (omega (arith, within))
apart_in (x ∷ xs) ss once r s a b (zero, within, is) in_other said also = first (subst (λ o. AreOnce (cons_option o (said_by (xs ++ ss)))) (ap limits_said is ∙ said) once)
  where
    first : AreOnce (a ∷ said_by (xs ++ ss)) → same_owner a.0 b.0 ≡ false
    first once = all_said (λ (y : Owner × Limits). same_owner a.0 y.0 ≡ false) (xs ++ ss) once.0 s b (Contains-append_right xs ss s in_other) also
apart_in (x ∷ xs) ss once r s a b (suc k, within, is) in_other said also =
    by_first (λ rest. apart_in xs ss rest r s a b (k, omega (arith, within), is) in_other said also) (limits_said x) once
  where
    by_first : (AreOnce (said_by (xs ++ ss)) → same_owner a.0 b.0 ≡ false) → (o : Option (Owner × Limits)) → AreOnce (cons_option o (said_by (xs ++ ss))) → same_owner a.0 b.0 ≡ false
    by_first later None once = later once
    by_first later (Some e) once = later once.1

-- no two cells say an owner's limits
pub no_owner_twice : (cs : List PlacedCell) → AreOnce (said_by (records_of cs)) → (j k : ℕ) (c e : PlacedCell) (one other : Record) → slice_get cs j ≡ Some c → slice_get cs k ≡ Some e → j < k
    → Contains c.cell.records one → Contains e.cell.records other → (kind_of one ≡ 7) ⊎ (kind_of one ≡ 8) → (kind_of other ≡ 7) ⊎ (kind_of other ≡ 8) → kind_of one ≡ kind_of other → id_of one ≡ id_of other → ⊥
no_owner_twice [] once j k c e one other at_j at_k less in_one in_other limits also kinds ids = nothing c at_j
no_owner_twice (d ∷ ds) once j zero c e one other at_j at_k less in_one in_other limits also kinds ids = omega (arith, less)
no_owner_twice (d ∷ ds) once zero (suc k) c e one other at_j at_k less in_one in_other limits also kinds ids =
    let a = says_owner one limits in
    let b = says_owner other also in
    let who : a.0.0 ≡ b.0.0 = a.2 ∙ (λ i. owner_by (kinds i) (ids i)) ∙ sym b.2 in
    let apart = apart_in d.cell.records (records_of ds) once one other a.0 b.0 (subst (λ (x : PlacedCell). Contains x.cell.records one) (sym (some_same d c at_j)) in_one) (in_records ds k e other at_k in_other) a.1 b.1 in
    true≢false (sym (itself a.0.0) ∙ ap (same_owner a.0.0) who ∙ apart)
no_owner_twice (d ∷ ds) once (suc j) (suc k) c e one other at_j at_k less in_one in_other limits also kinds ids =
    no_owner_twice ds (once_behind d.cell.records (records_of ds) once) j k c e one other at_j at_k (omega (arith, less)) in_one in_other limits also kinds ids
