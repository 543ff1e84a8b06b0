-- Which rows and fields the rules let pass are those that the format allows.
use Rattle.std.proofs.Common.{◌≡◌, ℕ, zero, suc, ◌+◌, ◌^◌, ◌<◌, ◌≤◌, Bool, true, false, cond, ltb, leb, eqb, ◌&&◌, ◌||◌, List, [], ◌∷◌, ◌++◌, length, refl, sym, ap, subst, inl, inr, arith, lit<}
use Rattle.std.specs.List.{flat_map, AllByRecursion}
use Rattle.std.proofs.lemmas.Bool.{lt-ltb, leb-true, le-leb, eqb-true, eqb-false, eq-eqb, ne_eqb, and_parts, and_from, or_cases, or_left, or_right}
use Rattle.cell_records.specs.declared.rule.Rule.{Rule}
use Rattle.cell_records.specs.declared.rule.Rule.TheVariants.{Range, IfUsed, Page, Count}
use Rattle.cell_records.specs.declared.rule.Seen.{Seen}
use Rattle.cell_records.specs.declared.record.ExtentField.{ExtentField}
use Rattle.cell_records.specs.declared.record.HoleField.{HoleField}
use Rattle.cell_records.specs.Layouts.{repeated, hole_widths}
use Rattle.cell_records.specs.Records.{hole_numbers, IsRun, IsShort, IsExtent, NoExtent, NoHole, AreExtents, AreHoles}
use Rattle.cell_records.specs.Rules.{allows, hole_rules, repeated_rules}
use Rattle.cell_records.proofs.Scan.{Passes}

pub range_is : (least most : ℕ) (seen : Seen) (n : ℕ) → allows (Range least most) seen n ≡ true → (least ≤ n) × (n ≤ most)
range_is least most seen n e = let p = and_parts (leb least n) (leb n most) e in (leb-true least n p.0, leb-true n most p.1)

pub range_from : (least most : ℕ) (seen : Seen) (n : ℕ) → least ≤ n → n ≤ most → allows (Range least most) seen n ≡ true
range_from least most seen n low high = and_from (leb least n) (leb n most) (le-leb least n low) (le-leb n most high)

pub exactly_is : (m : ℕ) (seen : Seen) (n : ℕ) → allows (Range m m) seen n ≡ true → n ≡ m
exactly_is m seen n e = let p = range_is m m seen n e in omega (arith, p.0, p.1)

-- a field after a zero volume or count
pub unused_is : (most : ℕ) (n : ℕ) → ((eqb n 0) || (false && leb n most)) ≡ true → n ≡ 0
unused_is most n e = elim (or_cases (eqb n 0) (false && leb n most) e) [ inl none ↦ eqb-true n 0 none | inr some ↦ absurd cc ]

-- a field after another
pub used_is : (most : ℕ) (n : ℕ) → ((eqb n 0) || (true && leb n most)) ≡ true → n ≤ most
used_is most n e = elim (or_cases (eqb n 0) (true && leb n most) e) [
  | inl none ↦ omega (arith, eqb-true n 0 none)
  | inr some ↦ leb-true n most some
]

pub used_from : (most : ℕ) (n : ℕ) → n ≤ most → ((eqb n 0) || (true && leb n most)) ≡ true
used_from most n le = or_right (eqb n 0) (true && leb n most) (le-leb n most le)

pub unused_from : (most : ℕ) (n : ℕ) → n ≡ 0 → ((eqb n 0) || (false && leb n most)) ≡ true
unused_from most n none = or_left (eqb n 0) (false && leb n most) (eq-eqb n 0 none)

-- what stands after a row's count
abbrev pub behind : Bool → ℕ → Seen
behind b from = cond b (record { from = 65536; page = 0; used = false }) (record { from = from; page = 0; used = true })

-- whether the count may stand after the page
abbrev pub counts : Bool → ℕ → ℕ → ℕ → Bool
counts b from page count = cond b (eqb page 0) (leb from page && leb (page + count) 65536)

run_is : (from page count : ℕ) → eqb count 0 ≡ false → (leb from page && leb (page + count) 65536) ≡ true → IsRun from page count
run_is from page count some e =
    let p = and_parts (leb from page) (leb (page + count) 65536) e in
    let ne = eqb-false count 0 some in
    record { begins = leb-true from page p.0; some = omega arith; ends = leb-true (page + count) 65536 p.1 }

counts_from : (from page count : ℕ) → IsRun from page count → counts false from page count ≡ true
counts_from from page count run = and_from (leb from page) (leb (page + count) 65536) (le-leb from page run.begins) (le-leb (page + count) 65536 run.ends)

page_from : (from page count : ℕ) → IsRun from page count → ((eqb page 0) || (leb from page && ltb page 65536)) ≡ true
page_from from page count run =
    or_right (eqb page 0) (leb from page && ltb page 65536) (and_from (leb from page) (ltb page 65536) (le-leb from page run.begins) (lt-ltb page 65536 (omega (arith, run.some, run.ends))))

some_count : (from page count : ℕ) → IsRun from page count → eqb count 0 ≡ false
some_count from page count run = ne_eqb count 0 (λ e. omega (arith, run.some, e))

-- ---- extents, plain and dense: a row is its page and its count, and after these its volume and first page

no_more_extents : (es : List ExtentField) → AreExtents 65536 es → AllByRecursion NoExtent es
no_more_extents [] h = tt
no_more_extents (e ∷ es) (inl h) = absurd (omega (arith, h.0.run.begins, h.0.run.some, h.0.run.ends))
no_more_extents (e ∷ es) (inr h) = h

-- where a row leads, if it has pages, and if it has none; its volume has v bytes
abbrev pub Leads : ℕ → Bool → ExtentField → Type 0
Leads v false e = (e.vol < 256 ^ v) × (e.first < 2 ^ 32)
Leads v true e = (e.vol ≡ 0) × (e.first ≡ 0)

abbrev row_numbers : (ExtentField → List ℕ) → ExtentField → List ℕ
row_numbers rest e = e.page ∷ e.count ∷ rest e

abbrev row_rules : List Rule → List Rule
row_rules rs = Page ∷ Count ∷ rs

abbrev RowsPass : (ExtentField → List ℕ) → ℕ → List ℕ → List Rule → ℕ → Seen → List ExtentField → Type 0
RowsPass rest w ws rs n seen es = Passes (repeated n (w ∷ w ∷ ws)) (repeated_rules n (row_rules rs)) seen (flat_map (row_numbers rest) es)

abbrev RowsAllowed : ℕ → ℕ → ℕ → ℕ → List ExtentField → Type 0
RowsAllowed w v n from es = (length es ≡ n) × AreExtents from es × AllByRecursion (λ e. (e.count < 256 ^ w) × (e.vol < 256 ^ v)) es

-- what the fields after a count pass
pub record RestOf (rest : ExtentField → List ℕ) (v : ℕ) (ws : List ℕ) (rs : List Rule) : Type 0 where
  pub reads : (b : Bool) (from : ℕ) (e : ExtentField) (vs : List ℕ) (qs : List Rule) (ns : List ℕ) → Passes (ws ++ vs) (rs ++ qs) (behind b from) (rest e ++ ns)
      → Leads v b e × Passes vs qs (behind b from) ns
  pub writes : (b : Bool) (from : ℕ) (e : ExtentField) (vs : List ℕ) (qs : List Rule) (ns : List ℕ) → Leads v b e → Passes vs qs (behind b from) ns
      → Passes (ws ++ vs) (rs ++ qs) (behind b from) (rest e ++ ns)

module _ (rest : ExtentField → List ℕ) (w v : ℕ) (ws : List ℕ) (rs : List Rule) (of : RestOf rest v ws rs) (fits : (p : ℕ) → p < 65536 → p < 256 ^ w) (no_volume : 0 < 256 ^ v) (wide : (n : ℕ) → n < 256 ^ v → n < 2 ^ 32) where
  extent_row : (n : ℕ) (e : ExtentField) (es : List ExtentField) (from : ℕ) (b : Bool) → eqb e.count 0 ≡ b → counts b from e.page e.count ≡ true → e.count < 256 ^ w
      → Passes (ws ++ repeated n (w ∷ w ∷ ws)) (rs ++ repeated_rules n (row_rules rs)) (behind b (e.page + e.count)) (rest e ++ flat_map (row_numbers rest) es)
      → ((seen : Seen) → RowsPass rest w ws rs n seen es → RowsAllowed w v n seen.from es)
      → RowsAllowed w v (suc n) from (e ∷ es)
  extent_row n e es from true none count small pass others =
      let both = of.reads true (e.page + e.count) e _ _ _ pass in
      let others' = others (behind true (e.page + e.count)) both.1 in
      let row : NoExtent e = record { page = eqb-true e.page 0 count; count = eqb-true e.count 0 none; volume = both.0.0; first = both.0.1 } in
      (ap suc others'.0, inr (row, no_more_extents es others'.1), ((small, subst (λ n. n < 256 ^ v) (sym both.0.0) no_volume), others'.2))
  extent_row n e es from false some count small pass others =
      let both = of.reads false (e.page + e.count) e _ _ _ pass in
      let others' = others (behind false (e.page + e.count)) both.1 in
      let row : IsExtent from e = record { run = run_is from e.page e.count some count; volume = wide e.vol both.0.0; first = both.0.1 } in
      (ap suc others'.0, inl (row, others'.1), ((small, both.0.0), others'.2))

  -- rows of extents that pass are allowed
  pub extents_allowed : (n : ℕ) (es : List ExtentField) (seen : Seen) → RowsPass rest w ws rs n seen es → RowsAllowed w v n seen.from es
  extents_allowed zero [] seen pass = (refl, tt, tt)
  extents_allowed zero (e ∷ es) seen pass = absurd pass
  extents_allowed (suc n) [] seen pass = absurd pass
  extents_allowed (suc n) (e ∷ es) seen pass = extent_row n e es seen.from (eqb e.count 0) refl pass.2.1 pass.2.0 pass.2.2 (λ s p. extents_allowed n es s p)

  no_row : (page count : ℕ) (ns : List ℕ) (seen : Seen) (vs : List ℕ) (qs : List Rule) → page ≡ 0 → count ≡ 0 → Passes vs qs (behind true 0) ns
      → Passes (w ∷ w ∷ vs) (Page ∷ Count ∷ qs) seen (page ∷ count ∷ ns)
  no_row page count ns seen vs qs no_page no_count pass = let zero_fits = fits 0 (omega arith) in rw (no_page, no_count) (zero_fits, refl, (zero_fits, refl, pass))

  no_extents_pass : (es : List ExtentField) (seen : Seen) → AllByRecursion NoExtent es → RowsPass rest w ws rs (length es) seen es
  no_extents_pass [] seen none = tt
  no_extents_pass (e ∷ es) seen none =
      let row = none.0 in
      let others = no_extents_pass es (behind true 0) none.1 in
      let led = of.writes true 0 e (repeated (length es) (w ∷ w ∷ ws)) (repeated_rules (length es) (row_rules rs)) (flat_map (row_numbers rest) es) (row.volume, row.first) others in
      no_row e.page e.count (rest e ++ flat_map (row_numbers rest) es) seen _ _ row.page row.count led

  extent_passes : (e : ExtentField) (es : List ExtentField) (from : ℕ) (b : Bool) → b ≡ false → IsExtent from e → e.vol < 256 ^ v
      → RowsPass rest w ws rs (length es) (behind false (e.page + e.count)) es
      → (counts b from e.page e.count ≡ true) × Passes (ws ++ repeated (length es) (w ∷ w ∷ ws)) (rs ++ repeated_rules (length es) (row_rules rs)) (behind b (e.page + e.count)) (rest e ++ flat_map (row_numbers rest) es)
  extent_passes e es from true same row low others = absurd cc
  extent_passes e es from false same row low others =
      (counts_from from e.page e.count row.run, of.writes false (e.page + e.count) e _ _ _ (low, row.first) others)

  -- rows of extents that are allowed pass
  pub extents_pass : (es : List ExtentField) (seen : Seen) → AreExtents seen.from es → AllByRecursion (λ e. (e.count < 256 ^ w) × (e.vol < 256 ^ v)) es → RowsPass rest w ws rs (length es) seen es
  extents_pass [] seen h small = tt
  extents_pass (e ∷ es) seen (inl h) small =
      let row = h.0 in
      let others = extents_pass es (behind false (e.page + e.count)) h.1 small.1 in
      let both = extent_passes e es seen.from (eqb e.count 0) (some_count seen.from e.page e.count row.run) row small.0.1 others in
      (fits e.page (omega (arith, row.run.some, row.run.ends)), page_from seen.from e.page e.count row.run, (small.0.0, both.0, both.1))
  extents_pass (e ∷ es) seen (inr h) small = no_extents_pass (e ∷ es) seen h

-- plain extents: volume and first page in four bytes each
abbrev pub plain_rest : ExtentField → List ℕ
plain_rest e = e.vol ∷ e.first ∷ []

pub plain : RestOf plain_rest 4 (4 ∷ 4 ∷ []) (IfUsed 4294967295 ∷ IfUsed 4294967295 ∷ [])
plain = record {
  reads = λ b from e vs qs ns pass. elim b as (λ b. Passes (4 ∷ 4 ∷ vs) (IfUsed 4294967295 ∷ IfUsed 4294967295 ∷ qs) (behind b from) (e.vol ∷ e.first ∷ ns) → Leads 4 b e × Passes vs qs (behind b from) ns) [
    | true ↦ λ pass. ((unused_is 4294967295 e.vol pass.1, unused_is 4294967295 e.first pass.2.1), pass.2.2)
    | false ↦ λ pass. ((pass.0, pass.2.0), pass.2.2)
  ] pass;
  writes = λ b from e vs qs ns leads pass. elim b as (λ b. Leads 4 b e → Passes vs qs (behind b from) ns → Passes (4 ∷ 4 ∷ vs) (IfUsed 4294967295 ∷ IfUsed 4294967295 ∷ qs) (behind b from) (e.vol ∷ e.first ∷ ns)) [
    | true ↦ λ leads pass. (omega (arith, leads.0), unused_from 4294967295 e.vol leads.0, (omega (arith, leads.1), unused_from 4294967295 e.first leads.1, pass))
    | false ↦ λ leads pass. (leads.0, used_from 4294967295 e.vol (omega (arith, leads.0)), (leads.1, used_from 4294967295 e.first (omega (arith, leads.1)), pass))
  ] leads pass;
}

-- dense ones: volume in one byte, two zeros, and first page in four bytes
abbrev pub dense_rest : ExtentField → List ℕ
dense_rest e = e.vol ∷ 0 ∷ 0 ∷ e.first ∷ []

abbrev dense_rest_rules : List Rule
dense_rest_rules = IfUsed 255 ∷ Range 0 0 ∷ Range 0 0 ∷ IfUsed 4294967295 ∷ []

pub dense : RestOf dense_rest 1 (1 ∷ 1 ∷ 2 ∷ 4 ∷ []) dense_rest_rules
dense = record {
  reads = λ b from e vs qs ns pass. elim b as (λ b. Passes (1 ∷ 1 ∷ 2 ∷ 4 ∷ vs) (dense_rest_rules ++ qs) (behind b from) (e.vol ∷ 0 ∷ 0 ∷ e.first ∷ ns) → Leads 1 b e × Passes vs qs (behind b from) ns) [
    | true ↦ λ pass. ((unused_is 255 e.vol pass.1, unused_is 4294967295 e.first pass.2.2.2.1), pass.2.2.2.2)
    | false ↦ λ pass. ((pass.0, pass.2.2.2.0), pass.2.2.2.2)
  ] pass;
  writes = λ b from e vs qs ns leads pass. elim b as (λ b. Leads 1 b e → Passes vs qs (behind b from) ns → Passes (1 ∷ 1 ∷ 2 ∷ 4 ∷ vs) (dense_rest_rules ++ qs) (behind b from) (e.vol ∷ 0 ∷ 0 ∷ e.first ∷ ns)) [
    | true ↦ λ leads pass. (omega (arith, leads.0), unused_from 255 e.vol leads.0, (omega arith, refl, (omega arith, refl, (omega (arith, leads.1), unused_from 4294967295 e.first leads.1, pass))))
    | false ↦ λ leads pass. (leads.0, used_from 255 e.vol (omega (arith, leads.0)), (omega arith, refl, (omega arith, refl, (leads.1, used_from 4294967295 e.first (omega (arith, leads.1)), pass))))
  ] leads pass;
}

pub page_fits_2 : (p : ℕ) → p < 65536 → p < 256 ^ 2
page_fits_2 p low = omega arith

pub page_fits_4 : (p : ℕ) → p < 65536 → p < 256 ^ 4
page_fits_4 p low = omega arith

pub volume_fits_1 : (n : ℕ) → n < 256 ^ 1 → n < 2 ^ 32
volume_fits_1 n low = omega (arith, low)

pub volume_fits_4 : (n : ℕ) → n < 256 ^ 4 → n < 2 ^ 32
volume_fits_4 n low = low

-- the count and the volume of a plain extent always fit
pub counts_fit : (from : ℕ) (es : List ExtentField) → AreExtents from es → AllByRecursion (λ e. (e.count < 256 ^ 4) × (e.vol < 256 ^ 4)) es
counts_fit from [] h = tt
counts_fit from (e ∷ es) (inl h) = ((omega (arith, h.0.run.ends), h.0.volume), counts_fit (e.page + e.count) es h.1)
counts_fit from (e ∷ es) (inr h) = none_fit (e ∷ es) h
  where
    none_fit : (es : List ExtentField) → AllByRecursion NoExtent es → AllByRecursion (λ e. (e.count < 256 ^ 4) × (e.vol < 256 ^ 4)) es
    none_fit [] h = tt
    none_fit (e ∷ es) h = ((omega (arith, h.0.count), omega (arith, h.0.volume)), none_fit es h.1)

-- the numbers of dense extents fit their fields
pub all_short : (from : ℕ) (es : List ExtentField) → AreExtents from es → AllByRecursion (λ e. (e.count < 2 ^ 16) × (e.vol < 2 ^ 8)) es → AllByRecursion IsShort es
all_short from [] h small = tt
all_short from (e ∷ es) (inl h) small = (record { page = omega (arith, h.0.run.some, h.0.run.ends); count = small.0.0; volume = small.0.1 }, all_short (e.page + e.count) es h.1 small.1)
all_short from (e ∷ es) (inr h) small = none_short (e ∷ es) h
  where
    none_short : (es : List ExtentField) → AllByRecursion NoExtent es → AllByRecursion IsShort es
    none_short [] h = tt
    none_short (e ∷ es) h = (record { page = omega (arith, h.0.page); count = omega (arith, h.0.count); volume = omega (arith, h.0.volume) }, none_short es h.1)

-- ---- holes

no_more_holes : (hs : List HoleField) → AreHoles 65536 hs → AllByRecursion NoHole hs
no_more_holes [] h = tt
no_more_holes (x ∷ hs) (inl h) = absurd (omega (arith, h.0.begins, h.0.some, h.0.ends))
no_more_holes (x ∷ hs) (inr h) = h

hole_row : (n : ℕ) (x : HoleField) (hs : List HoleField) (from : ℕ) (b : Bool) → eqb x.count 0 ≡ b → counts b from x.page x.count ≡ true
    → Passes (repeated n hole_widths) (repeated_rules n hole_rules) (behind b (x.page + x.count)) (flat_map hole_numbers hs)
    → ((seen : Seen) → Passes (repeated n hole_widths) (repeated_rules n hole_rules) seen (flat_map hole_numbers hs) → (length hs ≡ n) × AreHoles seen.from hs)
    → (length (x ∷ hs) ≡ suc n) × AreHoles from (x ∷ hs)
hole_row n x hs from true none count pass others =
    let rest = others (behind true (x.page + x.count)) pass in
    let row : NoHole x = record { page = eqb-true x.page 0 count; count = eqb-true x.count 0 none } in
    (ap suc rest.0, inr (row, no_more_holes hs rest.1))
hole_row n x hs from false some count pass others =
    let rest = others (behind false (x.page + x.count)) pass in
    (ap suc rest.0, inl (run_is from x.page x.count some count, rest.1))

-- rows of holes that pass are allowed
pub holes_allowed : (n : ℕ) (hs : List HoleField) (seen : Seen) → Passes (repeated n hole_widths) (repeated_rules n hole_rules) seen (flat_map hole_numbers hs) → (length hs ≡ n) × AreHoles seen.from hs
holes_allowed zero [] seen pass = (refl, tt)
holes_allowed zero (x ∷ hs) seen pass = absurd pass
holes_allowed (suc n) [] seen pass = absurd pass
holes_allowed (suc n) (x ∷ hs) seen pass = hole_row n x hs seen.from (eqb x.count 0) refl pass.2.1 pass.2.2 (λ s p. holes_allowed n hs s p)

no_holes_pass : (hs : List HoleField) (seen : Seen) → AllByRecursion NoHole hs → Passes (repeated (length hs) hole_widths) (repeated_rules (length hs) hole_rules) seen (flat_map hole_numbers hs)
no_holes_pass [] seen none = tt
no_holes_pass (x ∷ hs) seen none =
    let row = none.0 in
    let others = no_holes_pass hs (behind true 0) none.1 in
    rw (row.page, row.count) (lit< tt, refl, (lit< tt, refl, others))

hole_passes : (x : HoleField) (hs : List HoleField) (from : ℕ) (b : Bool) → b ≡ false → IsRun from x.page x.count
    → Passes (repeated (length hs) hole_widths) (repeated_rules (length hs) hole_rules) (behind false (x.page + x.count)) (flat_map hole_numbers hs)
    → (counts b from x.page x.count ≡ true) × Passes (repeated (length hs) hole_widths) (repeated_rules (length hs) hole_rules) (behind b (x.page + x.count)) (flat_map hole_numbers hs)
hole_passes x hs from true same run others = absurd cc
hole_passes x hs from false same run others = (counts_from from x.page x.count run, others)

-- rows of holes that are allowed pass
pub holes_pass : (hs : List HoleField) (seen : Seen) → AreHoles seen.from hs → Passes (repeated (length hs) hole_widths) (repeated_rules (length hs) hole_rules) seen (flat_map hole_numbers hs)
holes_pass [] seen h = tt
holes_pass (x ∷ hs) seen (inl h) =
    let run = h.0 in
    let others = holes_pass hs (behind false (x.page + x.count)) h.1 in
    let both = hole_passes x hs seen.from (eqb x.count 0) (some_count seen.from x.page x.count run) run others in
    (omega (arith, run.some, run.ends), page_from seen.from x.page x.count run, (omega (arith, run.ends), both.0, both.1))
holes_pass (x ∷ hs) seen (inr h) = no_holes_pass (x ∷ hs) seen h
