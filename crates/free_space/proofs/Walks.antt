-- Steps of the walk over pages.
use Rattle.std.proofs.Common.{◌≡◌, ℕ, suc, ◌+◌, ◌-◌, ◌*◌, ◌/◌, ◌%◌, ◌^◌, ◌<◌, ◌≤◌, ◌||◌, Bool, true, false, List, nat_eq, sym, ◌∙◌, ap, subst, arith, add-zero, ⊎_elim}
use Rattle.std.proofs.Math.Nat.{pow-suc}
use Rattle.std.proofs.lemmas.Bool.{cases_lt, cases_eq, both_ways, lt-ltb}
use Rattle.std.proofs.lemmas.Nat.{shr-shr, shr_le, leading_top}
use Rattle.std.proofs.lemmas.Nat.Bits.{bit_at-trailing_zeros, bit_at-trailing_ones, bit_at-zero, bit_at_above, bit_at_cat_high}
use Rattle.std.specs.Int.{bit_at, trailing_zeros, trailing_ones, leading_zeros, w64}
use Rattle.free_space.specs.Bits.{is_set}
use Rattle.free_space.specs.Walk.{is_taken, NoneTaken, IsWalked, IsFound}

module _ (taken : ℕ → Bool) (count : ℕ) where
  pub free_more : (start at next : ℕ) → IsWalked taken count start at → at ≤ next → NoneTaken taken at next → IsWalked taken count start next
  free_more start at next walked on none = record {
    order = omega (arith, walked.order);
    free = λ q after before. ⊎_elim (λ old. walked.free q after old) (λ new. none q new before) (cases_lt q at);
    none = walked.none;
  }

  -- the pages that no run of that many can hold
  passed : (start at next p : ℕ) → IsWalked taken count start at → at < start + count → ((q : ℕ) → at ≤ q → q < next → taken q ≡ true) →
      at < next → p < next → NoneTaken taken p (p + count) → ⊥
  passed start at next p walked short used more before run =
      ⊎_elim (λ early. walked.none p early run)
      (λ late. ⊎_elim (λ inside. both_ways (taken at) (run at (omega arith) (omega arith)) (used at (omega arith) more))
      (λ there. both_ways (taken p) (run p (omega arith) (omega (arith, walked.order))) (used p there before)) (cases_lt p at))
      (cases_lt p start)

  pub used_more : (start at next : ℕ) → IsWalked taken count start at → at < start + count → at < next →
      ((q : ℕ) → at ≤ q → q < next → taken q ≡ true) → IsWalked taken count next next
  used_more start at next walked short more used = record {
    order = omega arith;
    free = λ q after before. absurd (omega arith);
    none = λ p before run. passed start at next p walked short used more before run;
  }

  pub found : (start at : ℕ) → IsWalked taken count start at → start + count ≤ at → IsFound taken count start
  found start at walked long = record { free = λ q after before. walked.free q after (omega arith); none = walked.none }

-- a walk begins where every page before is before `from`
pub begin_walk : (bytes : List ℕ) (from count at : ℕ) → at ≤ from → 0 < count → IsWalked (is_taken bytes from) count at at
unfolding is_taken
begin_walk bytes from count at early some = record {
  order = omega arith;
  free = λ q after before. absurd (omega arith);
  none = λ p before run. both_ways (is_taken bytes from p) (run p (omega arith) (omega arith)) (ap (λ b. b || is_set bytes p) (lt-ltb p from (omega arith)));
}

-- the walk has come to page `at` of a word that ends before page `end`, and `rest` has the bits from there on
pub record IsPartWalked (taken : ℕ → Bool) (count start at end rest : ℕ) : Type 0 where
  pub walked : IsWalked taken count start at
  pub short : at < start + count
  pub place : at ≤ end
  pub bits : (i : ℕ) → at + i < end → nat_eq (bit_at rest i) 1 ≡ taken (at + i)
  pub high : (i : ℕ) → end ≤ at + i → bit_at rest i ≡ 0
  pub size : rest + 1 < 2 ^ 64

zero_not_one : (b : ℕ) → b ≡ 0 → b ≡ 1 → ⊥
zero_not_one b zero_is one_is = omega arith

-- the walk begins with the word
pub begun : (taken : ℕ → Bool) (count start at word : ℕ) → IsWalked taken count start at → at < start + count →
    ((i : ℕ) → i < 64 → nat_eq (bit_at word i) 1 ≡ taken (at + i)) → word + 1 < 2 ^ 64 → IsPartWalked taken count start at (at + 64) word
begun taken count start at word walked short bits size = record {
  walked = walked;
  short = short;
  place = omega arith;
  bits = λ i within. bits i (omega arith);
  high = λ i past. bit_at_above word 64 i (omega arith) (omega arith);
  size = size;
}

-- a bit of what a shift leaves
bit_at-shifted : (n k i : ℕ) → bit_at (n / 2 ^ k) i ≡ bit_at n (k + i)
bit_at-shifted n k i = ap (λ x. x % 2) (shr-shr n k i)

module _ {taken : ℕ → Bool} {count start at end rest : ℕ} (part : IsPartWalked taken count start at end rest) where
  -- a 1 is a taken page, and a 0 before the end one that is not
  taken_from : (i : ℕ) → at + i < end → bit_at rest i ≡ 1 → taken (at + i) ≡ true
  taken_from i within one = sym (part.bits i within) ∙ ap (λ b. nat_eq b 1) one

  free_from : (i : ℕ) → at + i < end → bit_at rest i ≡ 0 → taken (at + i) ≡ false
  free_from i within none = sym (part.bits i within) ∙ ap (λ b. nat_eq b 1) none

  -- a 1 lies before the end
  one_within : (i : ℕ) → bit_at rest i ≡ 1 → at + i < end
  one_within i one = ⊎_elim (λ low. low) (λ high. absurd (zero_not_one (bit_at rest i) (part.high i high) one)) (cases_lt (at + i) end)

  none_from : (next : ℕ) → next ≤ end → ((i : ℕ) → at + i < next → bit_at rest i ≡ 0) → NoneTaken taken at next
  none_from next within zeros q after before =
      let place : at + (q - at) ≡ q = omega arith in
      subst (λ x. taken x ≡ false) place (free_from (q - at) (omega arith) (zeros (q - at) (omega arith)))

  -- where no 1 is left, the rest of the word is free
  pub word_done : rest ≡ 0 → IsWalked taken count start end
  word_done zero_rest =
      free_more taken count start at end part.walked part.place
      (none_from end (omega arith) (λ i _. subst (λ n. bit_at n i ≡ 0) (sym zero_rest) (bit_at-zero i)))

  module _ (some : 0 < rest) where
    first_one : (trailing_zeros w64 rest < 64) × (bit_at rest (trailing_zeros w64 rest) ≡ 1) × ((i : ℕ) → i < trailing_zeros w64 rest → bit_at rest i ≡ 0)
    first_one = bit_at-trailing_zeros w64 rest some (omega (arith, part.size))

    pub zeros_within : at + trailing_zeros w64 rest < end
    zeros_within = one_within (trailing_zeros w64 rest) first_one.1

    pub zeros_walked : IsWalked taken count start (at + trailing_zeros w64 rest)
    zeros_walked =
        free_more taken count start at (at + trailing_zeros w64 rest) part.walked (omega arith)
        (none_from (at + trailing_zeros w64 rest) (omega (arith, zeros_within)) (λ i below. first_one.2 i (omega arith)))

    module _ (used : ℕ) (is : used ≡ trailing_ones w64 (rest / 2 ^ trailing_zeros w64 rest)) (short : at + trailing_zeros w64 rest < start + count) where
      run_of_ones : (bit_at (rest / 2 ^ trailing_zeros w64 rest) used ≡ 0) × ((i : ℕ) → i < used → bit_at (rest / 2 ^ trailing_zeros w64 rest) i ≡ 1)
      run_of_ones =
          let laws = bit_at-trailing_ones w64 (rest / 2 ^ trailing_zeros w64 rest) (omega (arith, part.size, shr_le rest (trailing_zeros w64 rest))) in
          subst (λ n. (bit_at (rest / 2 ^ trailing_zeros w64 rest) n ≡ 0) × ((i : ℕ) → i < n → bit_at (rest / 2 ^ trailing_zeros w64 rest) i ≡ 1)) (sym is) (laws.1, laws.2)

      one_at : (i : ℕ) → i < used → bit_at rest (trailing_zeros w64 rest + i) ≡ 1
      one_at i below = sym (bit_at-shifted rest (trailing_zeros w64 rest) i) ∙ run_of_ones.1 i below

      pub ones_some : 0 < used
      ones_some = ⊎_elim
          (λ none. absurd (zero_not_one (bit_at (rest / 2 ^ trailing_zeros w64 rest) 0)
          (subst (λ n. bit_at (rest / 2 ^ trailing_zeros w64 rest) n ≡ 0) none run_of_ones.0)
          (bit_at-shifted rest (trailing_zeros w64 rest) 0 ∙ ap (λ n. bit_at rest n) (add-zero (trailing_zeros w64 rest)) ∙ first_one.1)))
          (λ some. omega arith) (cases_eq used 0)

      pub ones_within : at + (trailing_zeros w64 rest + used) ≤ end
      ones_within = omega (arith, ones_some, one_within (trailing_zeros w64 rest + (used - 1)) (one_at (used - 1) (omega (arith, ones_some))))

      ones_taken : (q : ℕ) → at + trailing_zeros w64 rest ≤ q → q < at + (trailing_zeros w64 rest + used) → taken q ≡ true
      ones_taken q after before =
          let place : at + (trailing_zeros w64 rest + (q - (at + trailing_zeros w64 rest))) ≡ q = omega arith in
          let one = one_at (q - (at + trailing_zeros w64 rest)) (omega arith) in
          subst (λ x. taken x ≡ true) place (taken_from (trailing_zeros w64 rest + (q - (at + trailing_zeros w64 rest))) (one_within (trailing_zeros w64 rest + (q - (at + trailing_zeros w64 rest))) one) one)

      bit_after : (i : ℕ) → bit_at (rest / 2 ^ trailing_zeros w64 rest / 2 ^ used) i ≡ bit_at rest (trailing_zeros w64 rest + (used + i))
      bit_after i = bit_at-shifted (rest / 2 ^ trailing_zeros w64 rest) used i ∙ bit_at-shifted rest (trailing_zeros w64 rest) (used + i)

      pub next_part : IsPartWalked taken count (at + (trailing_zeros w64 rest + used)) (at + (trailing_zeros w64 rest + used)) end
          (rest / 2 ^ trailing_zeros w64 rest / 2 ^ used)
      next_part = record {
        walked = used_more taken count start (at + trailing_zeros w64 rest) (at + (trailing_zeros w64 rest + used)) zeros_walked short (omega (arith, ones_some)) ones_taken;
        short = omega (arith, part.walked.order, short, zeros_walked.order, part.short);
        place = ones_within;
        bits = λ i within.
            let place : at + (trailing_zeros w64 rest + (used + i)) ≡ at + (trailing_zeros w64 rest + used) + i = omega arith in
            ap (λ b. nat_eq b 1) (bit_after i) ∙ part.bits (trailing_zeros w64 rest + (used + i)) (omega arith) ∙ ap taken place;
        high = λ i past. bit_after i ∙ part.high (trailing_zeros w64 rest + (used + i)) (omega arith);
        size = omega (arith, part.size, shr_le rest (trailing_zeros w64 rest), shr_le (rest / 2 ^ trailing_zeros w64 rest) used);
      }

-- the last 1 of a word
last_one : (n j : ℕ) → 2 ^ j ≤ n → n < 2 ^ suc j → bit_at n j ≡ 1
last_one n j least most =
    let rest : n - 2 ^ j < 2 ^ j = omega (arith, pow-suc 2 j) in
    let split : n ≡ 1 * 2 ^ j + (n - 2 ^ j) = omega arith in
    let none : j - j ≡ 0 = omega arith in
    ap (λ m. bit_at m j) split ∙ bit_at_cat_high 1 j (n - 2 ^ j) j rest (omega arith) ∙ ap (λ i. bit_at 1 i) none

-- a walk for so long a run that none lies inside the word
module _ {taken : ℕ → Bool} {count start at rest : ℕ} (part : IsPartWalked taken count start at (at + 64) rest) (some : 0 < rest) (long : 64 ≤ count) where
  pub ends_found : start + count ≤ at + trailing_zeros w64 rest → IsFound taken count start
  ends_found met = found taken count start (at + trailing_zeros w64 rest) (zeros_walked part some) met

  pub ends_within : at + trailing_zeros w64 rest < at + 64
  ends_within = zeros_within part some

  pub ends_walked : (next : ℕ) → at + trailing_zeros w64 rest < start + count → next + leading_zeros w64 rest ≡ at + 64 → IsWalked taken count next (at + 64)
  ends_walked next short is =
      let top = leading_top 64 rest some (omega (arith, part.size)) in
      let place : next ≡ at + suc top.0 = omega (arith, top.1) in
      let last : taken (at + top.0) ≡ true = taken_from part top.0 (omega (arith, top.1)) (last_one rest top.0 top.2 top.3) in
      let first : taken (at + trailing_zeros w64 rest) ≡ true =
      taken_from part (trailing_zeros w64 rest) ends_within (bit_at-trailing_zeros w64 rest some (omega (arith, part.size))).1 in
      record {
        order = omega (arith, top.1);
        free = λ q after before.
            let there : at + (q - at) ≡ q = omega arith in
            subst (λ x. taken x ≡ false) there (free_from part (q - at) (omega arith) (bit_at_above rest (suc top.0) (q - at) top.3 (omega arith)));
        none = λ p before run. ⊎_elim
            (λ early. ⊎_elim (λ older. part.walked.none p older run)
            (λ now. both_ways (taken (at + trailing_zeros w64 rest)) (run (at + trailing_zeros w64 rest) (omega arith) (omega arith)) first) (cases_lt p start))
            (λ inside. both_ways (taken (at + top.0)) (run (at + top.0) (omega arith) (omega arith)) last) (cases_lt p at);
      }

  pub ends_after : (next : ℕ) → next + leading_zeros w64 rest ≡ at + 64 → at < next
  ends_after next is = let top = leading_top 64 rest some (omega (arith, part.size)) in omega (arith, top.1)
