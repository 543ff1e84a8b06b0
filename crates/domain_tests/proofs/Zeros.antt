-- Zeros, and bytes before them.
use Rattle.std.proofs.Common.{◌≡◌, ◌∙◌, ℕ, zero, suc, ◌+◌, ◌-◌, ◌≤◌, Bool, List, ◌++◌, length, drop, take, count_by, slice_index, refl, sym, ap, arith}
use Rattle.std.proofs.lemmas.List.{drop-drop, drop-replicate, drop_at, take-replicate, get_or-append-add, get_or-drop}
use Rattle.byteorder.specs.Endian.{little_from}
use Rattle.domain_making.specs.domain_base.Page.{zero_bytes}
use Rattle.domain_making.specs.cell_records.Fields.{number_at}

pub zero_anywhere : (n i : ℕ) → slice_index (zero_bytes n) i ≡ 0
unfolding zero_bytes
zero_anywhere zero i = refl
zero_anywhere (suc n) zero = refl
zero_anywhere (suc n) (suc i) = zero_anywhere n i

pub part_of_zeros : (a n m : ℕ) → a + n ≤ m → take n (drop a (zero_bytes m)) ≡ zero_bytes n
unfolding zero_bytes
part_of_zeros a n m within = ap (take n) (drop-replicate a m 0) ∙ take-replicate n (m - a) 0 (omega (arith, within))

pub first_zeros : (n m : ℕ) → n ≤ m → take n (zero_bytes m) ≡ zero_bytes n
unfolding zero_bytes
first_zeros n m within = take-replicate n m 0 within

-- a part of zeros that stand after other bytes
pub part_behind : (front : List ℕ) (a n m : ℕ) → a + n ≤ m → take n (drop (length front + a) (front ++ zero_bytes m)) ≡ zero_bytes n
part_behind front a n m within =
    ap (take n) (sym (drop-drop a (length front) (front ++ zero_bytes m)) ∙ ap (drop a) (drop_at front (zero_bytes m) (length front) refl))
    ∙ part_of_zeros a n m within

pub byte_behind : (front : List ℕ) (i m : ℕ) → slice_index (front ++ zero_bytes m) (length front + i) ≡ 0
byte_behind front i m = get_or-append-add front (zero_bytes m) i 0 ∙ zero_anywhere m i

all_zero : (w i : ℕ) (xs : List ℕ) → ((j : ℕ) → slice_index xs j ≡ 0) → little_from i w xs ≡ 0
all_zero zero i xs zeros = refl
all_zero (suc w) i xs zeros = omega (arith, zeros i, all_zero w (suc i) xs zeros)

-- a number that stands in zeros after other bytes
pub number_behind : (front : List ℕ) (w i m : ℕ) → number_at w (length front + i) (front ++ zero_bytes m) ≡ 0
unfolding number_at
number_behind front w i m = all_zero w 0 (drop (length front + i) (front ++ zero_bytes m)) zeros
  where
    zeros : (j : ℕ) → slice_index (drop (length front + i) (front ++ zero_bytes m)) j ≡ 0
    zeros j =
        let e : length front + i + j ≡ length front + (i + j) = omega arith in
        get_or-drop (length front + i) (front ++ zero_bytes m) j 0 ∙ ap (slice_index (front ++ zero_bytes m)) e ∙ byte_behind front (i + j) m

-- tests that agree count the same
pub count_same : (f g : ℕ → Bool) (xs : List ℕ) → ((x : ℕ) → f x ≡ g x) → count_by f xs ≡ count_by g xs
count_same f g xs same = λ i. count_by (λ x. same x i) xs
