-- The members of a state, counted as a row has them.
use Rattle.std.proofs.Common.{◌≡◌, ◌∙◌, ◌+◌, ◌-◌, ◌<◌, ◌≤◌, ℕ, suc, Bool, true, false, cond, List, [], ◌∷◌, Option, Some, None, filter, length, map as map_each, slice_get, refl, sym, ap, arith, if◌then◌else◌}
use Rattle.std.proofs.Math.Logic.{∥∥₁_elim}
use Rattle.std.proofs.lemmas.List.Sums.{sum_by-cons}
use Rattle.std.specs.Coded.{Coded-set, coded_ℕ}
use Rattle.std.specs.List.{sum_by}
use Rattle.std.specs.Option.{option_map_or}
use Rattle.std.specs.Ordering.{nat_cmp}
use Rattle.std.specs.Cmp.{nat_cmp_total}
use Rattle.std.specs.FinMap as map
use Rattle.std.specs.FinMap.{nat_cmp-IsAntisymmetric}
use Rattle.no_faults.proofs.OfFilesetValues.MapLemmas.{get-remove_other, got-remove}
use Rattle.no_faults.proofs.OfFilesetModel.MoveLemmas.{entries-empty}
use Rattle.no_faults.specs.legal_histories.State.{Member}
use Rattle.no_faults.proofs.OfLegalHistories.SumLemmas.{taken_out}

-- ---- a map whose keys are the places of a row

module _ {X D : Type 0} (f : X → ℕ) (w : D → ℕ) where
  empty_sum : (m : map.FinMap nat_cmp X) → m ≡ map.empty → sum_by f (map.values m) ≡ 0
  empty_sum m is = ap (λ (x : map.FinMap nat_cmp X). sum_by f (map.values x)) is ∙ ap (λ (es : List (ℕ × X)). sum_by f (map_each (λ e. e.1) es)) (entries-empty nat_cmp)

  nothing_in : (m : map.FinMap nat_cmp X) (base : ℕ) → ((vol : ℕ) (v : X) → map.get m vol ≡ Some v → (base < vol) × (vol ≤ base + 0)) → m ≡ map.empty
  nothing_in m base inside = map.same_map nat_cmp_total nat_cmp-IsAntisymmetric m map.empty (λ q. by_found q (map.get m q) refl ∙ sym (map.get-empty nat_cmp q))
    where
      by_found : (q : ℕ) (o : Option X) → map.get m q ≡ o → o ≡ None
      by_found q None is = refl
      by_found q (Some v) is = let in_none = inside q v is in absurd (omega (arith, in_none.0, in_none.1))

  -- what a map has at base + 1, base + 2, .. counts as the places of the row do, and it has nothing else
  pub row_sum : (base : ℕ) (row : List D) (m : map.FinMap nat_cmp X) → ((vol : ℕ) (v : X) → map.get m vol ≡ Some v → (base < vol) × (vol ≤ base + length row))
      → ((k : ℕ) (d : D) → slice_get row k ≡ Some d → option_map_or f (map.get m (base + 1 + k)) 0 ≡ w d)
      → sum_by f (map.values m) ≡ sum_by w row
  row_sum base [] m inside each = empty_sum m (nothing_in m base inside)
  row_sum base (d ∷ row) m inside each =
      let less = map.remove m (base + 1) in
      let rest : sum_by f (map.values less) ≡ sum_by w row = row_sum (base + 1) row less
      (λ vol v at.
      let was = got-remove nat_cmp_total nat_cmp-IsAntisymmetric m (base + 1) vol v at in
      let range = inside vol v was.1 in
      behind vol was.0 range.0 range.1)
      (λ k x at.
      let here : base + 1 + suc k ≡ base + 1 + 1 + k = omega arith in
      let apart : ¬ base + 1 + 1 + k ≡ base + 1 = λ same. absurd (omega (arith, same)) in
      ap (λ o. option_map_or f o 0) (get-remove_other nat_cmp_total nat_cmp-IsAntisymmetric m (base + 1) (base + 1 + 1 + k) apart)
      ∙ ap (λ n. option_map_or f (map.get m n) 0) (sym here) ∙ each (suc k) x at) in
      let first : option_map_or f (map.get m (base + 1)) 0 ≡ w d = ap (λ n. option_map_or f (map.get m n) 0) (omega arith) ∙ each 0 d refl in
      let out = taken_out nat_cmp_total nat_cmp-IsAntisymmetric f m (base + 1) in
      let all = sum_by-cons w d row in
      omega (arith, rest, first, out, all)
    where
      behind : (vol : ℕ) → ¬ vol ≡ base + 1 → base < vol → vol ≤ base + length (d ∷ row) → (base + 1 < vol) × (vol ≤ base + 1 + length row)
      behind vol apart low high = (omega (arith, apart, low), omega (arith, high))

-- ---- what they count

abbrev pub opened_pages : Member → ℕ
opened_pages m = if m.is_open then m.pages else 0

pub open_sum : (ms : List Member) → sum_by (λ m. m.pages) (filter (λ m. m.is_open) ms) ≡ sum_by opened_pages ms
open_sum [] = refl
open_sum (m ∷ ms) = by_test m.is_open (open_sum ms) (sum_by-cons opened_pages m ms)
  where
    by_test : (b : Bool) → sum_by (λ x. x.pages) (filter (λ x. x.is_open) ms) ≡ sum_by opened_pages ms → sum_by opened_pages (m ∷ ms) ≡ (if b then m.pages else 0) + sum_by opened_pages ms
        → sum_by (λ x. x.pages) (cond b (m ∷ filter (λ x. x.is_open) ms) (filter (λ x. x.is_open) ms)) ≡ sum_by opened_pages (m ∷ ms)
    by_test true rest all = let one = sum_by-cons (λ (x : Member). x.pages) m (filter (λ x. x.is_open) ms) in omega (arith, rest, all, one)
    by_test false rest all = omega (arith, rest, all)

-- a number that is known to be another is that
pub one_number : (n m : ℕ) → ∥ n ≡ m ∥₁ → n ≡ m
one_number n m held = ∥∥₁_elim held (Coded-set coded_ℕ n m) (λ is. is)
