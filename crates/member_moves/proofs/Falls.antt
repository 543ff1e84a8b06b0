-- A move of a page that brings used shares nearer makes volumes less uneven.
use Rattle.std.proofs.Common.{◌≡◌, ◌∙◌, ◌≢◌, ◌⊎◌, inl, inr, ℕ, zero, suc, ◌+◌, ◌-◌, ◌*◌, ◌/◌, ◌<◌, ◌≤◌, Bool, true, false, cond, nat_eq, List, [], ◌∷◌, length, get_or, Contains, All, AllPairs, arith, le_of_eq, refl, sym, ap, subst}
use Rattle.std.specs.Prelude.{sum_by}
use Rattle.std.proofs.Math.Nat.{lt_of_mul-lt-mul_left, mul-div_cancel_left}
use Rattle.std.proofs.lemmas.Bool.{cases_Bool, eq-eqb, eqb-true, true≢false}
use Rattle.std.proofs.lemmas.Nat.{mul-le}
use Rattle.std.proofs.lemmas.List.Elements.{All-head, All-tail, Contains-get_or}
use Rattle.std.proofs.lemmas.List.Sums.{get_or-le-sum_by, sum_by-cons, sum_by-le}
use Rattle.member_moves.specs.Balance.{AreCounts, IsUneven}
use Rattle.member_moves.specs.MoverMoves.{count_after, counts_after, pages_product, unevenness}
use Rattle.member_moves.specs.declared.counts.VolCount.{VolCount}
use Rattle.member_moves.proofs.Even.{one_volume}
use Rattle.member_moves.proofs.Moved.{product_after}
use Rattle.member_moves.proofs.Found.{size_of}

-- a volume's part of the measure, in units of one over this multiple
abbrev part : ℕ → VolCount → ℕ
part multiple c = c.used * c.used * (multiple / c.pages)

-- what a move takes from the part of the volume from which the page goes
abbrev gain : ℕ → ℕ → VolCount → ℕ
gain multiple from c = cond (nat_eq c.vol from) ((2 * c.used - 1) * (multiple / c.pages)) 0

-- and what it adds to that of the one to which it goes
abbrev loss : ℕ → ℕ → ℕ → VolCount → ℕ
loss multiple from to c =
    cond (nat_eq c.vol from) 0 (cond (nat_eq c.vol to) ((2 * c.used + 1) * (multiple / c.pages)) 0)

one_less : (used weight : ℕ)
    → (used - 1) * (used - 1) * weight + (2 * used - 1) * weight ≡ used * used * weight + 0
one_less zero weight = omega arith
one_less (suc n) weight =
    let before : suc n - 1 ≡ n = omega arith in
    let twice : 2 * suc n - 1 ≡ 2 * n + 1 = omega arith in
    rw (before, twice) (omega arith)

part_by : (x y : Bool) (multiple : ℕ) (c : VolCount)
    → part multiple (cond x (record c { used = c.used - 1 }) (cond y (record c { used = c.used + 1 }) c))
    + cond x ((2 * c.used - 1) * (multiple / c.pages)) 0
    ≡ part multiple c + cond x 0 (cond y ((2 * c.used + 1) * (multiple / c.pages)) 0)
part_by true y multiple c = one_less c.used (multiple / c.pages)
part_by false true multiple c = omega arith
part_by false false multiple c = refl

parts_after : (multiple from to : ℕ) (counts : List VolCount)
    → sum_by (part multiple) (counts_after from to counts) + sum_by (gain multiple from) counts
    ≡ sum_by (part multiple) counts + sum_by (loss multiple from to) counts
parts_after multiple from to [] = refl
parts_after multiple from to (c ∷ cs) =
    let here = part_by (nat_eq c.vol from) (nat_eq c.vol to) multiple c in
    let rest = parts_after multiple from to cs in
    omega (
      arith,
      here,
      rest,
      sum_by-cons (part multiple) (count_after from to c) (counts_after from to cs),
      sum_by-cons (gain multiple from) c cs,
      sum_by-cons (part multiple) c cs,
      sum_by-cons (loss multiple from to) c cs,
    )

zero_of : {n : ℕ} → n ≤ 0 → n ≡ 0
zero_of h = omega arith

loss_le : (x y : Bool) (part_of bound : ℕ) → (y ≡ true → part_of ≤ bound)
    → cond x 0 (cond y part_of 0) ≤ bound
loss_le true y part_of bound fits = omega arith
loss_le false true part_of bound fits = fits refl
loss_le false false part_of bound fits = omega arith

-- a sum to which at most one volume adds a part is at most that part
one_part : (f : VolCount → ℕ) (vol bound : ℕ) → ((c : VolCount) → c.vol ≢ vol → f c ≡ 0)
    → (counts : List VolCount) → AllPairs (λ a b. a.vol ≢ b.vol) counts
    → All (λ c. f c ≤ bound) counts → sum_by f counts ≤ bound
one_part f vol bound none [] distinct below = omega arith
one_part f vol bound none (c ∷ cs) distinct below =
    by (cases_Bool (nat_eq c.vol vol))
    (one_part f vol bound none cs
    (λ i j d less within. distinct (suc i) (suc j) d (omega arith) (omega arith))
    (All-tail (λ (d : VolCount). f d ≤ bound) c cs below))
  where
    by : (nat_eq c.vol vol ≡ true) ⊎ (nat_eq c.vol vol ≡ false) → sum_by f cs ≤ bound
        → sum_by f (c ∷ cs) ≤ bound
    by (inl is) rest =
        let others : All (λ (d : VolCount). f d ≤ 0) cs = λ k d less.
        le_of_eq (none (get_or cs k d) (λ same.
        distinct 0 (suc k) d (omega arith) (omega arith) (eqb-true c.vol vol is ∙ sym same))) in
        omega (
          arith,
          sum_by-cons f c cs,
          sum_by-le f 0 cs others,
          All-head (λ (d : VolCount). f d ≤ bound) c cs below,
        )
    by (inr other) rest =
        let zero_part = none c (λ same. true≢false (sym (eq-eqb c.vol vol same) ∙ other)) in
        omega (arith, rest, zero_part, sum_by-cons f c cs)

-- each volume's pages divide the common multiple
factor : (counts : List VolCount) (k : ℕ) (d : VolCount) → k < length counts
    → (n : ℕ) × (pages_product counts ≡ (get_or counts k d).pages * n)
factor (c ∷ cs) zero d less = (pages_product cs, refl)
factor (c ∷ cs) (suc k) d less =
    let rest = factor cs k d (omega arith) in
    let whole : c.pages * pages_product cs ≡ c.pages * ((get_or cs k d).pages * rest.0) =
    ap (λ (n : ℕ). c.pages * n) rest.1 in
    (c.pages * rest.0, omega (arith, whole))
factor [] k d less = absurd (none_below k less)
  where
    none_below : (n : ℕ) → n < 0 → ⊥
    none_below n less_than = omega arith

weighed : (counts : List VolCount) (c : VolCount) → 1 ≤ c.pages → Contains counts c
    → c.pages * (pages_product counts / c.pages) ≡ pages_product counts
weighed counts c from there =
    let found = factor counts there.0 c there.1 in
    let whole : pages_product counts ≡ c.pages * found.0 =
    found.1 ∙ ap (λ (d : VolCount). d.pages * found.0) there.2 in
    let quotient : pages_product counts / c.pages ≡ found.0 =
    ap (λ (n : ℕ). n / c.pages) whole ∙ mul-div_cancel_left found.0 from in
    ap (λ (n : ℕ). c.pages * n) quotient ∙ sym whole

product_positive : (counts : List VolCount) → All (λ c. 1 ≤ c.pages) counts → 1 ≤ pages_product counts
product_positive [] sized = omega arith
product_positive (c ∷ cs) sized =
    let rest = product_positive cs (All-tail (λ (d : VolCount). 1 ≤ d.pages) c cs sized) in
    let both : 1 * 1 ≤ c.pages * pages_product cs =
    mul-le 1 1 c.pages (pages_product cs) (All-head (λ (d : VolCount). 1 ≤ d.pages) c cs sized) rest in
    omega (arith, both)

-- where two volumes are not level, the one gains more than the other loses
gains_more : (uf pf ue pe mf me whole : ℕ) → 1 ≤ whole → pf * mf ≡ whole → pe * me ≡ whole
    → ¬ (2 * (uf * pe - ue * pf) ≤ pe + pf) → (2 * ue + 1) * me < (2 * uf - 1) * mf
gains_more zero pf ue pe mf me whole positive by_f by_e apart = absurd (apart (omega arith))
gains_more (suc u) pf ue pe mf me whole positive by_f by_e apart =
    let twice : 2 * suc u - 1 ≡ 2 * u + 1 = omega arith in
    let shares : (2 * ue + 1) * pf + 1 ≤ (2 * u + 1) * pe = omega arith in
    let times : ((2 * ue + 1) * pf + 1) * whole ≤ ((2 * u + 1) * pe) * whole =
    mul-le ((2 * ue + 1) * pf + 1) whole ((2 * u + 1) * pe) whole shares (omega arith) in
    let left : (2 * ue + 1) * pf * (pe * me) ≡ (2 * ue + 1) * pf * whole =
    ap (λ (n : ℕ). (2 * ue + 1) * pf * n) by_e in
    let right : (2 * u + 1) * pe * (pf * mf) ≡ (2 * u + 1) * pe * whole =
    ap (λ (n : ℕ). (2 * u + 1) * pe * n) by_f in
    let fewer : pe * pf * ((2 * ue + 1) * me) < pe * pf * ((2 * u + 1) * mf) =
    omega (arith, times, left, right, positive) in
    rw twice (lt_of_mul-lt-mul_left (pe * pf) fewer)

pub unevenness_falls : (counts : List VolCount) (full empty : ℕ) → AreCounts counts
    → IsUneven counts full empty
    → unevenness (counts_after full empty counts) < unevenness counts
unevenness_falls counts full empty sound uneven =
    rw (product_after full empty counts) (omega (arith, parts_after m full empty counts, lost, gained, more))
  where
    m : ℕ
    m = pages_product counts

    f : VolCount
    f = uneven.f

    e : VolCount
    e = uneven.e

    f_there : Contains counts f
    f_there = uneven.fullest.open_volume.there

    e_there : Contains counts e
    e_there = uneven.emptiest.open_volume.there

    more : (2 * e.used + 1) * (m / e.pages) < (2 * f.used - 1) * (m / f.pages)
    more =
        gains_more f.used f.pages e.used e.pages (m / f.pages) (m / e.pages) m
        (product_positive counts sound.sized)
        (weighed counts f (size_of counts f sound uneven.fullest.open_volume) f_there)
        (weighed counts e (size_of counts e sound uneven.emptiest.open_volume) e_there)
        uneven.not_level

    gained : (2 * f.used - 1) * (m / f.pages) ≤ sum_by (gain m full) counts
    gained =
        let is : gain m full f ≡ (2 * f.used - 1) * (m / f.pages) =
        ap (λ (b : Bool). cond b ((2 * f.used - 1) * (m / f.pages)) 0)
        (eq-eqb f.vol full uneven.is_full) in
        let below : gain m full f ≤ sum_by (gain m full) counts =
        subst (λ (c : VolCount). gain m full c ≤ sum_by (gain m full) counts) f_there.2
        (get_or-le-sum_by (gain m full) counts f_there.0 f f_there.1) in
        omega (arith, is, below)

    lost : sum_by (loss m full empty) counts ≤ (2 * e.used + 1) * (m / e.pages)
    lost =
        one_part (loss m full empty) empty ((2 * e.used + 1) * (m / e.pages))
        (λ c other. zero_of
        (loss_le (nat_eq c.vol full) (nat_eq c.vol empty) ((2 * c.used + 1) * (m / c.pages)) 0
        (λ is. absurd (other (eqb-true c.vol empty is)))))
        counts sound.distinct
        (λ k d less.
        let c = get_or counts k d in
        loss_le (nat_eq c.vol full) (nat_eq c.vol empty) ((2 * c.used + 1) * (m / c.pages))
        ((2 * e.used + 1) * (m / e.pages)) (λ is.
        let same : c ≡ e =
        one_volume counts c e sound (Contains-get_or counts k d less) e_there
        (eqb-true c.vol empty is ∙ sym uneven.is_empty) in
        le_of_eq (ap (λ (v : VolCount). (2 * v.used + 1) * (m / v.pages)) same)))
