-- The bytes of a bitmap with no used page.
use Rattle.std.proofs.Common.{◌≡◌, ℕ, ◌+◌, ◌-◌, ◌*◌, ◌/◌, ◌%◌, ◌<◌, ◌≤◌, ◌&&◌, List, [], ◌∷◌, ◌++◌, length, nat_eq, nat_le, nat_lt, sym, ◌∙◌, ap, arith, ⊎_elim}
use Rattle.std.proofs.lemmas.Bool.{cases_lt, le-leb, lt-leb, le-ltb, and_right}
use Rattle.std.proofs.lemmas.List.{get_or_append_left, get_or_push, length_push}
use Rattle.std.specs.Int.{bit_at}
use Rattle.std.specs.Ordering.{nat_cmp}
use Rattle.std.specs.FinSet.{empty, len, contains-empty, len-empty}
use Rattle.free_space.specs.Bits.{is_set, used_below, bitmap_bytes, IsKept}
use Rattle.free_space.proofs.Used.{contains-used_below, same_pages}

-- a bit is 1 if and only if it lies past the last page
pub record IsBlank (bytes : List ℕ) (pages : ℕ) : Type 0 where
  pub bits : (q : ℕ) → q < 8 * length bytes → is_set bytes q ≡ nat_le pages q

bit_before : (bytes : List ℕ) (byte q : ℕ) → q < 8 * length bytes → is_set (bytes ++ byte ∷ []) q ≡ is_set bytes q
unfolding is_set
bit_before bytes byte q within = ap (λ n. nat_eq (bit_at n (q % 8)) 1) (get_or_append_left bytes (byte ∷ []) 0 (q / 8) (omega arith))

bit_of_last : (bytes : List ℕ) (byte q : ℕ) → 8 * length bytes ≤ q → q < 8 * length bytes + 8 →
    is_set (bytes ++ byte ∷ []) q ≡ nat_eq (bit_at byte (q - 8 * length bytes)) 1
unfolding is_set
bit_of_last bytes byte q after within =
    let place : length bytes ≡ q / 8 = omega arith in
    let left : q % 8 ≡ q - 8 * length bytes = omega arith in
    (λ x. nat_eq (bit_at (get_or_push bytes byte 0 (q / 8) place x) (left x)) 1)

pub blank_none : (pages : ℕ) → IsBlank [] pages
blank_none pages = record { bits = λ q within. absurd (omega arith) }

pub blank_more : (bytes : List ℕ) (pages byte : ℕ) → IsBlank bytes pages →
    ((i : ℕ) → i < 8 → nat_eq (bit_at byte i) 1 ≡ nat_le pages (8 * length bytes + i)) → IsBlank (bytes ++ byte ∷ []) pages
blank_more bytes pages byte blank last = record {
  bits = λ q within. ⊎_elim (λ before. bit_before bytes byte q before ∙ blank.bits q before)
      (λ after.
      let inside : q < 8 * length bytes + 8 = omega (arith, length_push bytes byte) in
      let place : 8 * length bytes + (q - 8 * length bytes) ≡ q = omega arith in
      bit_of_last bytes byte q after inside ∙ last (q - 8 * length bytes) (omega arith) ∙ ap (λ n. nat_le pages n) place)
      (cases_lt q (8 * length bytes));
}

pub used-blank : (bytes : List ℕ) (pages : ℕ) → IsBlank bytes pages → length bytes ≡ bitmap_bytes pages → used_below bytes pages ≡ empty
used-blank bytes pages blank size = same_pages (used_below bytes pages) empty (λ q. contains-used_below bytes pages q
    ∙ ⊎_elim (λ inside. and_right (nat_lt q pages) (is_set bytes q) (blank.bits q (omega (arith, size)) ∙ lt-leb pages q inside))
    (λ past. ap (λ b. b && is_set bytes q) (le-ltb q pages past)) (cases_lt q pages) ∙ sym (contains-empty nat_cmp q))

pub kept-blank : (bytes : List ℕ) (pages : ℕ) → IsBlank bytes pages → length bytes ≡ bitmap_bytes pages → IsKept bytes pages pages
kept-blank bytes pages blank size = record {
  size = size;
  past = λ q past within. blank.bits q within ∙ le-leb pages q past;
  count = omega (arith, ap len (used-blank bytes pages blank size), len-empty nat_cmp);
}
