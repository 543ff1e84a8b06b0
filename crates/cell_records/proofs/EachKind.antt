-- What holds of each kind of record.
use Rattle.std.proofs.Common.{◌≡◌, ℕ, zero, suc, ◌^◌, ◌<◌, ◌≤◌, Bool, true, false, cond, ◌&&◌, ltb, eqb, List, [], ◌∷◌, length, drop, refl, sym, ap, subst, ◌∙◌, inl, inr, arith}
use Rattle.std.specs.List.{flat_map, AllByRecursion}
use Rattle.std.proofs.lemmas.Bool.{cases_lt, and_parts, eqb-true, eqb-false, lt-ltb, leb-true, le-leb}
use Rattle.cell_records.specs.declared.rule.Rule.{Rule}
use Rattle.cell_records.specs.declared.rule.Rule.TheVariants.{Any, Range, Volume as VolumeRule, IfUsed, Page, Count}
use Rattle.cell_records.specs.declared.rule.Seen.{Seen}
use Rattle.cell_records.specs.declared.record.Record.{Record}
use Rattle.cell_records.specs.declared.record.Record.TheVariants.{Attributes, CloneFile, Extents, ShortExtents, Holes, Pending, UserQuota, GroupQuota, DirIndex, Parent, Stripe, Volume, DenseExtents, ShortDense}
use Rattle.cell_records.specs.declared.record.ExtentField.{ExtentField}
use Rattle.cell_records.specs.declared.record.HoleField.{HoleField}
use Rattle.cell_records.specs.declared.record.Leftover.TheVariants.{Trim, Remove}
use Rattle.cell_records.specs.Layouts.{repeated, widths, extent_widths, dense_widths, hole_widths, IsKind}
use Rattle.cell_records.specs.Records.{kind_of, numbers, extent_numbers, dense_numbers, hole_numbers, leftover_number, IsShort, AreExtents, AreDense, Allowed}
use Rattle.cell_records.specs.Rules.{allows, after, nothing_seen, rules_of, repeated_rules, extent_rules, dense_rules, hole_rules}
use Rattle.cell_records.specs.Fields.{number_at, extents, dense_extents, holes, volumes, record_at}
use Rattle.cell_records.proofs.Scan.{Passes, decoded, are_sane}
use Rattle.cell_records.proofs.Rules.{range_is, range_from, unused_is, used_is, used_from, plain, plain_rest, dense, dense_rest, page_fits_2, page_fits_4, volume_fits_1, volume_fits_4, counts_fit, all_short, extents_allowed, extents_pass, holes_allowed, holes_pass}

-- a fact of each number from 1 to n
abbrev pub EachTo : (ℕ → Type 0) → ℕ → Type 0
EachTo P zero = Unit {0}
EachTo P (suc n) = EachTo P n × P (suc n)

each_to : (P : ℕ → Type 0) (n : ℕ) → EachTo P n → (k : ℕ) → 1 ≤ k → k ≤ n → P k
each_to P zero all k some low = absurd (omega arith)
each_to P (suc n) all k some low = elim (cases_lt k (suc n)) [
  | inl before ↦ each_to P n all.0 k some (omega arith)
  | inr last ↦ let is : suc n ≡ k = omega arith in subst P is all.1
]

-- a fact of each kind
pub each_kind : (P : ℕ → Type 0) → EachTo P 14 → (k : ℕ) → IsKind k → P k
each_kind P all k h = let high : k < 15 = h.1 in each_to P 14 all k h.0 (omega arith)

-- a test that each kind passes, which one computation shows
abbrev all_to : (ℕ → Bool) → ℕ → Bool
all_to f zero = true
all_to f (suc n) = all_to f n && f (suc n)

tests_of : (f : ℕ → Bool) (n : ℕ) → all_to f n ≡ true → EachTo (λ k. f k ≡ true) n
tests_of f zero all = tt
tests_of f (suc n) all = let parts = and_parts (all_to f n) (f (suc n)) all in (tests_of f n parts.0, parts.1)

pub each_test : (f : ℕ → Bool) → all_to f 14 ≡ true → (k : ℕ) → IsKind k → f k ≡ true
each_test f all k h = each_kind (λ j. f j ≡ true) (tests_of f 14 all) k h

-- the fields of each kind can be filled
pub kind-sane : (k : ℕ) → IsKind k → are_sane (widths k) (rules_of k) ≡ true
kind-sane k h = each_test (λ j. are_sane (widths j) (rules_of j)) refl k h

pub is_kind : (r : Record) → IsKind (kind_of r)
is_kind (Attributes kind uid gid flags size keep links birth unsynced) = (omega arith, omega arith)
is_kind (CloneFile vol cell page frozen) = (omega arith, omega arith)
is_kind (Extents rows) = (omega arith, omega arith)
is_kind (ShortExtents rows) = (omega arith, omega arith)
is_kind (Holes rows) = (omega arith, omega arith)
is_kind (Pending what) = (omega arith, omega arith)
is_kind (UserQuota id files blocks) = (omega arith, omega arith)
is_kind (GroupQuota id files blocks) = (omega arith, omega arith)
is_kind (DirIndex vol page entries) = (omega arith, omega arith)
is_kind (Parent slot seq) = (omega arith, omega arith)
is_kind (Stripe width mark vols) = (omega arith, omega arith)
is_kind (Volume vol pages bitmap_pages) = (omega arith, omega arith)
is_kind (DenseExtents rows) = (omega arith, omega arith)
is_kind (ShortDense rows) = (omega arith, omega arith)

-- ---- the record that stands in some bytes has the numbers that stand there

pub record IsRecordAt (k : ℕ) (bytes : List ℕ) : Type 0 where
  pub kind : kind_of (record_at k bytes) ≡ k
  pub numbers : numbers (record_at k bytes) ≡ decoded (widths k) 0 bytes

abbrev IfPasses : List ℕ → ℕ → Type 0
IfPasses bytes k = Passes (widths k) (rules_of k) nothing_seen (decoded (widths k) 0 bytes) → IsRecordAt k bytes

-- a field that may hold one number alone has that number
abbrev fixed : Rule → ℕ → ℕ
fixed Any n = n
fixed (Range least most) n = cond (eqb least most) least n
fixed VolumeRule n = n
fixed (IfUsed most) n = n
fixed Page n = n
fixed Count n = n

abbrev filled : List Rule → List ℕ → List ℕ
filled [] ns = ns
filled (r ∷ rs) [] = []
filled (r ∷ rs) (n ∷ ns) = fixed r n ∷ filled rs ns

fixed_range : (least most n : ℕ) (seen : Seen) → allows (Range least most) seen n ≡ true → (b : Bool) → eqb least most ≡ b → cond b least n ≡ n
fixed_range least most n seen e true same = let p = range_is least most seen n e in omega (arith, p.0, p.1, eqb-true least most same)
fixed_range least most n seen e false same = refl

fixed_is : (r : Rule) (seen : Seen) (n : ℕ) → allows r seen n ≡ true → fixed r n ≡ n
fixed_is Any seen n e = refl
fixed_is (Range least most) seen n e = fixed_range least most n seen e (eqb least most) refl
fixed_is VolumeRule seen n e = refl
fixed_is (IfUsed most) seen n e = refl
fixed_is Page seen n e = refl
fixed_is Count seen n e = refl

filled_is : (ws : List ℕ) (rs : List Rule) (seen : Seen) (ns : List ℕ) → Passes ws rs seen ns → filled rs ns ≡ ns
filled_is [] [] seen [] pass = refl
filled_is [] (r ∷ rs) seen [] pass = refl
filled_is [] rs seen (n ∷ ns) pass = absurd pass
filled_is (w ∷ ws) [] seen ns pass = absurd pass
filled_is (w ∷ ws) (r ∷ rs) seen [] pass = absurd pass
filled_is (w ∷ ws) (r ∷ rs) seen (n ∷ ns) pass =
    let first = fixed_is r seen n pass.1 in
    let others = filled_is ws rs (after r seen n) ns pass.2 in
    cc

-- a kind whose record has the numbers that are read, if the fields that hold one number alone have
-- it
by_numbers : (k : ℕ) (bytes : List ℕ) → kind_of (record_at k bytes) ≡ k → numbers (record_at k bytes) ≡ filled (rules_of k) (decoded (widths k) 0 bytes) → IfPasses bytes k
by_numbers k bytes kind same pass = record { kind = kind; numbers = same ∙ filled_is (widths k) (rules_of k) nothing_seen (decoded (widths k) 0 bytes) pass }

leftover_reads : (n : ℕ) (b : Bool) → eqb n 1 ≡ b → (1 ≤ n) × (n ≤ 2) → leftover_number (cond b Trim Remove) ≡ n
leftover_reads n true same range = sym (eqb-true n 1 same)
leftover_reads n false same range = let other = eqb-false n 1 same in omega (arith, range.0, range.1)

-- of what is left the number is read as a name
pending_is : (bytes : List ℕ) → IfPasses bytes 6
pending_is bytes pass =
    let is = filled_is (widths 6) (rules_of 6) nothing_seen (decoded (widths 6) 0 bytes) pass in
    let n = number_at 4 4 bytes in
    let left = leftover_reads n (eqb n 1) refl (range_is 1 2 nothing_seen n pass.2.2.2.1) in
    record { kind = refl; numbers = ap (λ (m : ℕ). 6 ∷ 0 ∷ 12 ∷ m ∷ 0 ∷ []) left ∙ is }

pub is_record : (k : ℕ) → IsKind k → (bytes : List ℕ) → IfPasses bytes k
is_record k h bytes =
    each_kind (IfPasses bytes) (
      (
        (
          (
            (
              (
                (
                  (
                    (
                      (
                        (
                          (
                            (
                              (
                                tt,
                                by_numbers 1 bytes refl refl,
                              ),
                              by_numbers 2 bytes refl refl,
                            ),
                            by_numbers 3 bytes refl refl,
                          ),
                          by_numbers 4 bytes refl refl,
                        ),
                        by_numbers 5 bytes refl refl,
                      ),
                      pending_is bytes,
                    ),
                    by_numbers 7 bytes refl refl,
                  ),
                  by_numbers 8 bytes refl refl,
                ),
                by_numbers 9 bytes refl refl,
              ),
              by_numbers 10 bytes refl refl,
            ),
            by_numbers 11 bytes refl refl,
          ),
          by_numbers 12 bytes refl refl,
        ),
        by_numbers 13 bytes refl refl,
      ),
      by_numbers 14 bytes refl refl,
    )
    k h

-- ---- numbers that pass are those of allowed records

bytes_allowed : (n : ℕ) (bs : List ℕ) → Passes (repeated n (1 ∷ [])) (repeated_rules n (Any ∷ [])) nothing_seen bs → (length bs ≡ n) × AllByRecursion (λ b. b < 2 ^ 8) bs
bytes_allowed zero [] pass = (refl, tt)
bytes_allowed zero (b ∷ bs) pass = absurd pass
bytes_allowed (suc n) [] pass = absurd pass
bytes_allowed (suc n) (b ∷ bs) pass = let others = bytes_allowed n bs pass.2 in (ap suc others.0, (pass.0, others.1))

bytes_pass : (bs : List ℕ) → AllByRecursion (λ b. b < 2 ^ 8) bs → Passes (repeated (length bs) (1 ∷ [])) (repeated_rules (length bs) (Any ∷ [])) nothing_seen bs
bytes_pass [] fits = tt
bytes_pass (b ∷ bs) fits = (fits.0, refl, bytes_pass bs fits.1)

abbrev plain_rules : List Rule
plain_rules = IfUsed 4294967295 ∷ IfUsed 4294967295 ∷ []

abbrev dense_rest_rules : List Rule
dense_rest_rules = IfUsed 255 ∷ Range 0 0 ∷ Range 0 0 ∷ IfUsed 4294967295 ∷ []

plain_allowed : (n : ℕ) (rows : List ExtentField) → Passes (repeated n extent_widths) (repeated_rules n extent_rules) nothing_seen (flat_map extent_numbers rows)
    → (length rows ≡ n) × AreExtents 0 rows
plain_allowed n rows pass = let h = extents_allowed plain_rest 4 4 (4 ∷ 4 ∷ []) plain_rules plain page_fits_4 (omega arith) volume_fits_4 n rows nothing_seen pass in (h.0, h.1)

plain_pass : (rows : List ExtentField) → AreExtents 0 rows → Passes (repeated (length rows) extent_widths) (repeated_rules (length rows) extent_rules) nothing_seen (flat_map extent_numbers rows)
plain_pass rows h = extents_pass plain_rest 4 4 (4 ∷ 4 ∷ []) plain_rules plain page_fits_4 (omega arith) volume_fits_4 rows nothing_seen h (counts_fit 0 rows h)

dense_allowed : (n : ℕ) (rows : List ExtentField) → Passes (repeated n dense_widths) (repeated_rules n dense_rules) nothing_seen (flat_map dense_numbers rows)
    → (length rows ≡ n) × AreDense rows
dense_allowed n rows pass = let h = extents_allowed dense_rest 2 1 (1 ∷ 1 ∷ 2 ∷ 4 ∷ []) dense_rest_rules dense page_fits_2 (omega arith) volume_fits_1 n rows nothing_seen pass in (h.0, (h.1, h.2))

dense_pass : (rows : List ExtentField) → AreDense rows → Passes (repeated (length rows) dense_widths) (repeated_rules (length rows) dense_rules) nothing_seen (flat_map dense_numbers rows)
dense_pass rows h = extents_pass dense_rest 2 1 (1 ∷ 1 ∷ 2 ∷ 4 ∷ []) dense_rest_rules dense page_fits_2 (omega arith) volume_fits_1 rows nothing_seen h.0 h.1

abbrev RecordPasses : Record → Type 0
RecordPasses r = Passes (widths (kind_of r)) (rules_of (kind_of r)) nothing_seen (numbers r)

pub passes_allowed : (r : Record) → RecordPasses r → Allowed r
unfolding Allowed
passes_allowed (Attributes kind uid gid flags size keep links birth unsynced) pass = (range_is 1 2 nothing_seen kind pass.2.2.2.1, pass.2.2.2.2.0, pass.2.2.2.2.2.0, (range_is 0 1 nothing_seen flags pass.2.2.2.2.2.2.1).1, pass.2.2.2.2.2.2.2.0, pass.2.2.2.2.2.2.2.2.0, range_is 1 1000 nothing_seen links pass.2.2.2.2.2.2.2.2.2.1, pass.2.2.2.2.2.2.2.2.2.2.0, pass.2.2.2.2.2.2.2.2.2.2.2.0)
passes_allowed (CloneFile zero cell page frozen) pass = (inl (refl, unused_is 27 cell pass.2.2.2.2.2.1, unused_is 4294967295 page pass.2.2.2.2.2.2.1), pass.2.2.2.2.2.2.2.0)
passes_allowed (CloneFile (suc vol) cell page frozen) pass =
    let some : ltb 0 (suc vol) ≡ true = lt-ltb 0 (suc vol) (omega arith) in
    let cell_is = rw some at pass.2.2.2.2.2.1 in
    (inr ((omega arith, leb-true (suc vol) 8 pass.2.2.2.2.1), used_is 27 cell cell_is, pass.2.2.2.2.2.2.0), pass.2.2.2.2.2.2.2.0)
passes_allowed (Extents rows) pass = plain_allowed 16 rows pass.2.2.2
passes_allowed (ShortExtents rows) pass = plain_allowed 4 rows pass.2.2.2
passes_allowed (Holes rows) pass = holes_allowed 16 rows nothing_seen pass.2.2.2
passes_allowed (Pending what) pass = tt
passes_allowed (UserQuota id files blocks) pass = (pass.2.2.2.0, pass.2.2.2.2.2.0, pass.2.2.2.2.2.2.0)
passes_allowed (GroupQuota id files blocks) pass = (pass.2.2.2.0, pass.2.2.2.2.2.0, pass.2.2.2.2.2.2.0)
passes_allowed (DirIndex vol page entries) pass = (range_is 1 8 nothing_seen vol pass.2.2.2.1, pass.2.2.2.2.0, pass.2.2.2.2.2.0)
passes_allowed (Parent slot seq) pass = (pass.2.2.2.0, pass.2.2.2.2.0)
passes_allowed (Stripe width mark vols) pass = let others = bytes_allowed 8 vols pass.2.2.2.2.2.2 in (pass.2.2.2.0, pass.2.2.2.2.0, others.0, others.1)
passes_allowed (Volume vol pages bitmap_pages) pass = (pass.2.2.2.0, pass.2.2.2.2.0, pass.2.2.2.2.2.0)
passes_allowed (DenseExtents rows) pass = dense_allowed 22 rows pass.2.2.2
passes_allowed (ShortDense rows) pass = dense_allowed 4 rows pass.2.2.2

pub allowed_passes : (r : Record) → Allowed r → RecordPasses r
unfolding Allowed
allowed_passes (Attributes kind uid gid flags size keep links birth unsynced) h = (omega arith, refl, (omega arith, refl, (omega arith, refl, (omega (arith, h.0.1), range_from 1 2 nothing_seen kind h.0.0 h.0.1, (h.1, refl, (h.2, refl, (omega (arith, h.3), range_from 0 1 nothing_seen flags (omega arith) h.3, (h.4, refl, (h.5, refl, (omega (arith, h.6.1), range_from 1 1000 nothing_seen links h.6.0 h.6.1, (h.7, refl, (h.8, refl, tt))))))))))))
allowed_passes (CloneFile vol cell page frozen) (inl none, fits) =
    rw (none.0, none.1, none.2) (omega arith, refl, (omega arith, refl, (omega arith, refl, (omega arith, refl, (omega arith, refl, (omega arith, refl, (omega arith, refl, (fits, refl, (omega arith, refl, tt)))))))))
allowed_passes (CloneFile vol cell page frozen) (inr some, fits) =
    let used : ltb 0 vol ≡ true = lt-ltb 0 vol some.0.0 in
    rw used (omega arith, refl, (omega arith, refl, (omega arith, refl, (omega arith, refl, (omega (arith, some.0.1), le-leb vol 8 some.0.1, (omega (arith, some.1), used_from 27 cell some.1, (some.2, used_from 4294967295 page (omega (arith, some.2)), (fits, refl, (omega arith, refl, tt)))))))))
allowed_passes (Extents rows) h = (omega arith, refl, (omega arith, refl, (omega arith, refl, subst (λ (n : ℕ). Passes (repeated n extent_widths) (repeated_rules n extent_rules) nothing_seen (flat_map extent_numbers rows)) h.0 (plain_pass rows h.1))))
allowed_passes (ShortExtents rows) h = (omega arith, refl, (omega arith, refl, (omega arith, refl, subst (λ (n : ℕ). Passes (repeated n extent_widths) (repeated_rules n extent_rules) nothing_seen (flat_map extent_numbers rows)) h.0 (plain_pass rows h.1))))
allowed_passes (Holes rows) h = (omega arith, refl, (omega arith, refl, (omega arith, refl, subst (λ (n : ℕ). Passes (repeated n hole_widths) (repeated_rules n hole_rules) nothing_seen (flat_map hole_numbers rows)) h.0 (holes_pass rows nothing_seen h.1))))
allowed_passes (Pending Trim) h = (omega arith, refl, (omega arith, refl, (omega arith, refl, (omega arith, refl, (omega arith, refl, tt)))))
allowed_passes (Pending Remove) h = (omega arith, refl, (omega arith, refl, (omega arith, refl, (omega arith, refl, (omega arith, refl, tt)))))
allowed_passes (UserQuota id files blocks) h = (omega arith, refl, (omega arith, refl, (omega arith, refl, (h.0, refl, (omega arith, refl, (h.1, refl, (h.2, refl, tt)))))))
allowed_passes (GroupQuota id files blocks) h = (omega arith, refl, (omega arith, refl, (omega arith, refl, (h.0, refl, (omega arith, refl, (h.1, refl, (h.2, refl, tt)))))))
allowed_passes (DirIndex vol page entries) h = (omega arith, refl, (omega arith, refl, (omega arith, refl, (omega (arith, h.0.1), range_from 1 8 nothing_seen vol h.0.0 h.0.1, (h.1, refl, (h.2, refl, (omega arith, refl, tt)))))))
allowed_passes (Parent slot seq) h = (omega arith, refl, (omega arith, refl, (omega arith, refl, (h.0, refl, (h.1, refl, (omega arith, refl, tt))))))
allowed_passes (Stripe width mark vols) h = (omega arith, refl, (omega arith, refl, (omega arith, refl, (h.0, refl, (h.1, refl, (omega arith, refl, subst (λ (n : ℕ). Passes (repeated n (1 ∷ [])) (repeated_rules n (Any ∷ [])) nothing_seen vols) h.2 (bytes_pass vols h.3)))))))
allowed_passes (Volume vol pages bitmap_pages) h = (omega arith, refl, (omega arith, refl, (omega arith, refl, (h.0, refl, (h.1, refl, (h.2, refl, tt))))))
allowed_passes (DenseExtents rows) h = (omega arith, refl, (omega arith, refl, (omega arith, refl, subst (λ (n : ℕ). Passes (repeated n dense_widths) (repeated_rules n dense_rules) nothing_seen (flat_map dense_numbers rows)) h.0 (dense_pass rows h.1))))
allowed_passes (ShortDense rows) h = (omega arith, refl, (omega arith, refl, (omega arith, refl, subst (λ (n : ℕ). Passes (repeated n dense_widths) (repeated_rules n dense_rules) nothing_seen (flat_map dense_numbers rows)) h.0 (dense_pass rows h.1))))

-- ---- the numbers of a record say which it is

extent_is : (d e : ExtentField) → d.page ≡ e.page → d.count ≡ e.count → d.vol ≡ e.vol → d.first ≡ e.first → d ≡ e
extent_is d e page count vol first =
    ap (λ (n : ℕ). record d { page = n }) page ∙ ap (λ (n : ℕ). record e { count = n; vol = d.vol; first = d.first }) count
    ∙ ap (λ (n : ℕ). record e { vol = n; first = d.first }) vol ∙ ap (λ (n : ℕ). record e { first = n }) first

hole_is : (g h : HoleField) → g.page ≡ h.page → g.count ≡ h.count → g ≡ h
hole_is g h page count = ap (λ (n : ℕ). record g { page = n }) page ∙ ap (λ (n : ℕ). record h { count = n }) count

extents_are : (ds es : List ExtentField) → flat_map extent_numbers ds ≡ flat_map extent_numbers es → ds ≡ es
extents_are [] [] same = refl
extents_are [] (e ∷ es) same = absurd cc
extents_are (d ∷ ds) [] same = absurd cc
extents_are (d ∷ ds) (e ∷ es) same =
    let page : d.page ≡ e.page = cc in
    let count : d.count ≡ e.count = cc in
    let vol : d.vol ≡ e.vol = cc in
    let first : d.first ≡ e.first = cc in
    let row = extent_is d e page count vol first in
    let others = extents_are ds es (ap (λ (ns : List ℕ). drop 4 ns) same) in
    cc (row, others)

dense_are : (ds es : List ExtentField) → flat_map dense_numbers ds ≡ flat_map dense_numbers es → ds ≡ es
dense_are [] [] same = refl
dense_are [] (e ∷ es) same = absurd cc
dense_are (d ∷ ds) [] same = absurd cc
dense_are (d ∷ ds) (e ∷ es) same =
    let page : d.page ≡ e.page = cc in
    let count : d.count ≡ e.count = cc in
    let vol : d.vol ≡ e.vol = cc in
    let first : d.first ≡ e.first = cc in
    let row = extent_is d e page count vol first in
    let others = dense_are ds es (ap (λ (ns : List ℕ). drop 6 ns) same) in
    cc (row, others)

holes_are : (gs hs : List HoleField) → flat_map hole_numbers gs ≡ flat_map hole_numbers hs → gs ≡ hs
holes_are [] [] same = refl
holes_are [] (h ∷ hs) same = absurd cc
holes_are (g ∷ gs) [] same = absurd cc
holes_are (g ∷ gs) (h ∷ hs) same =
    let page : g.page ≡ h.page = cc in
    let count : g.count ≡ h.count = cc in
    let row = hole_is g h page count in
    let others = holes_are gs hs (ap (λ (ns : List ℕ). drop 2 ns) same) in
    cc (row, others)

-- the two zeros of a dense extent are its own
fill_dense : (n : ℕ) (es : List ExtentField) → filled (repeated_rules n dense_rules) (flat_map dense_numbers es) ≡ flat_map dense_numbers es
fill_dense zero es = refl
fill_dense (suc n) [] = refl
fill_dense (suc n) (e ∷ es) = ap (λ (ns : List ℕ). e.page ∷ e.count ∷ e.vol ∷ 0 ∷ 0 ∷ e.first ∷ ns) (fill_dense n es)

pub record_again : (r : Record) (bytes : List ℕ) → decoded (widths (kind_of r)) 0 bytes ≡ numbers r → record_at (kind_of r) bytes ≡ r
record_again (Attributes kind uid gid flags size keep links birth unsynced) bytes same = cc
record_again (CloneFile vol cell page frozen) bytes same = cc
record_again (Extents rows) bytes same = ap (λ (rows' : List ExtentField). Extents rows') (extents_are (extents 16 4 bytes) rows (ap (λ (ns : List ℕ). drop 3 ns) same))
record_again (ShortExtents rows) bytes same = ap (λ (rows' : List ExtentField). ShortExtents rows') (extents_are (extents 4 4 bytes) rows (ap (λ (ns : List ℕ). drop 3 ns) same))
record_again (Holes rows) bytes same = ap (λ (rows' : List HoleField). Holes rows') (holes_are (holes 16 4 bytes) rows (ap (λ (ns : List ℕ). drop 3 ns) same))
record_again (Pending Trim) bytes same = let n : number_at 4 4 bytes ≡ 1 = cc in rw n refl
record_again (Pending Remove) bytes same = let n : number_at 4 4 bytes ≡ 2 = cc in rw n refl
record_again (UserQuota id files blocks) bytes same = cc
record_again (GroupQuota id files blocks) bytes same = cc
record_again (DirIndex vol page entries) bytes same = cc
record_again (Parent slot seq) bytes same = cc
record_again (Stripe width mark vols) bytes same = let others : volumes 8 bytes ≡ vols = ap (λ (ns : List ℕ). drop 6 ns) same in cc
record_again (Volume vol pages bitmap_pages) bytes same = cc
record_again (DenseExtents rows) bytes same = ap (λ (rows' : List ExtentField). DenseExtents rows') (dense_are (dense_extents 22 4 bytes) rows (ap (λ (ns : List ℕ). filled (repeated_rules 22 dense_rules) (drop 3 ns)) same ∙ fill_dense 22 rows))
record_again (ShortDense rows) bytes same = ap (λ (rows' : List ExtentField). ShortDense rows') (dense_are (dense_extents 4 4 bytes) rows (ap (λ (ns : List ℕ). filled (repeated_rules 4 dense_rules) (drop 3 ns)) same ∙ fill_dense 4 rows))

-- what the number of rows is, and that dense ones fit
pub record RowsFit (rows : List ExtentField) (n : ℕ) : Type 0 where
  pub count : length rows ≡ n
  pub short : AllByRecursion IsShort rows

pub dense_fit : (rows : List ExtentField) → Allowed (DenseExtents rows) → RowsFit rows 22
unfolding Allowed
dense_fit rows h = record { count = h.0; short = all_short 0 rows h.1.0 h.1.1 }

pub short_dense_fit : (rows : List ExtentField) → Allowed (ShortDense rows) → RowsFit rows 4
unfolding Allowed
short_dense_fit rows h = record { count = h.0; short = all_short 0 rows h.1.0 h.1.1 }

pub volumes_are_eight : (width mark : ℕ) (vols : List ℕ) → Allowed (Stripe width mark vols) → length vols ≡ 8
unfolding Allowed
volumes_are_eight width mark vols h = h.2
