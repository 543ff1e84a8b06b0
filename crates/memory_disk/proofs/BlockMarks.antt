-- Marks of blocks after a write to their bits.
use Rattle.std.proofs.Common.{◌≡◌, ◌≢◌, ℕ, ◌+◌, ◌*◌, ◌/◌, ◌%◌, ◌^◌, ◌<◌, ◌≤◌, Bool, true, false, ◌&&◌, ◌||◌, List, length, get_or, set, replicate, nat_eq, leb, ltb, bit_and, bit_or, refl, sym, ◌∙◌, ap, inl, inr, arith, ⊎_elim}
use Rattle.std.proofs.lemmas.Bool.{cases_eq, cases_lt, le-leb, lt-leb, lt-ltb, le-ltb}
use Rattle.std.proofs.lemmas.List.{get_or-set_same, get_or-set_other, get_or-replicate, get_or_past, length-replicate}
use Rattle.std.proofs.lemmas.Nat.Bits.{bit_at-zero, bit_at_set_same, bit_at_set_other, shr_and_one}
use Rattle.std.specs.Int.{bit_at, w16}
use Rattle.memory_disk.specs.Marks.{is_marked}

-- no block of zeros is marked
pub none_marked : (words : List ℕ) → ((i : ℕ) → get_or words i 0 ≡ 0) → (q : ℕ) → is_marked words q ≡ false
unfolding is_marked
none_marked words zeros q = ap (λ (n : ℕ). nat_eq (bit_at n (q % 16)) 1) (zeros (q / 16)) ∙ no_bit (q % 16)
  where
    no_bit : (k : ℕ) → nat_eq (bit_at 0 k) 1 ≡ false
    no_bit k = ap (λ (b : ℕ). nat_eq b 1) (bit_at-zero k)

pub zero_words : (words : List ℕ) (n i : ℕ) → words ≡ replicate n 0 → get_or words i 0 ≡ 0
zero_words words n i is = ap (λ (l : List ℕ). get_or l i 0) is ∙ elim (cases_lt i n) [
  | inl lt ↦ get_or-replicate n i 0 0 lt
  | inr past ↦ get_or_past (replicate n 0) i 0 (omega (arith, length-replicate {A = ℕ} n 0))
]

-- the bit that is tested
pub marked_bit : (words : List ℕ) (q word : ℕ) → word ≡ get_or words (q / 16) 0 → nat_eq (bit_and (word / 2 ^ (q % 16)) 1) 1 ≡ is_marked words q
unfolding is_marked
marked_bit words q word read = ap (λ (n : ℕ). nat_eq n 1) (shr_and_one word (q % 16)) ∙ ap (λ (b : ℕ). nat_eq (bit_at b (q % 16)) 1) read

pub set_here : (words : List ℕ) (q v : ℕ) → q / 16 < length words → v ≡ bit_or (get_or words (q / 16) 0) (1 * 2 ^ (q % 16) % 65536) → is_marked (set words (q / 16) v) q ≡ true
unfolding is_marked
set_here words q v within is =
    ap (λ (n : ℕ). nat_eq (bit_at n (q % 16)) 1) (get_or-set_same words (q / 16) v 0 within ∙ is)
    ∙ ap (λ (n : ℕ). nat_eq n 1) (bit_at_set_same w16 (get_or words (q / 16) 0) (q % 16) (omega arith))

pub set_other : (words : List ℕ) (p q v : ℕ) → p / 16 < length words → v ≡ bit_or (get_or words (p / 16) 0) (1 * 2 ^ (p % 16) % 65536) → q ≢ p → is_marked (set words (p / 16) v) q ≡ is_marked words q
unfolding is_marked
set_other words p q v within is other = ⊎_elim
    (λ same.
    ap (λ (i : ℕ). nat_eq (bit_at (get_or (set words (p / 16) v) i 0) (q % 16)) 1) same
    ∙ ap (λ (n : ℕ). nat_eq (bit_at n (q % 16)) 1) (get_or-set_same words (p / 16) v 0 within ∙ is)
    ∙ ap (λ (n : ℕ). nat_eq n 1) (bit_at_set_other w16 (get_or words (p / 16) 0) (p % 16) (omega arith) (q % 16) (λ e. other (omega arith)))
    ∙ ap (λ (i : ℕ). nat_eq (bit_at (get_or words i 0) (q % 16)) 1) (sym same))
    (λ apart. ap (λ (n : ℕ). nat_eq (bit_at n (q % 16)) 1) (get_or-set_other words (p / 16) (q / 16) v 0 apart)) (cases_eq (q / 16) (p / 16))

-- one block more of a run
pub run_more : (old mid new : ℕ → Bool) (first block : ℕ) → first ≤ block → ((q : ℕ) → mid q ≡ ((leb first q && ltb q block) || old q)) → new block ≡ true → ((q : ℕ) → q ≢ block → new q ≡ mid q)
    → (q : ℕ) → new q ≡ ((leb first q && ltb q (block + 1)) || old q)
run_more old mid new first block order so_far here others q = elim (cases_eq q block) [
  | inl is ↦ ap new is ∙ here ∙ (let a : leb first q ≡ true = le-leb first q (omega arith) in let b : ltb q (block + 1) ≡ true = lt-ltb q (block + 1) (omega arith) in rw (a, b) refl)
  | inr other ↦ others q other ∙ so_far q ∙ elim (cases_lt q block) [
    | inl lt ↦ (let b : ltb q (block + 1) ≡ true = lt-ltb q (block + 1) (omega arith) in let c : ltb q block ≡ true = lt-ltb q block lt in rw (b, c) refl)
    | inr le ↦ (let b : ltb q (block + 1) ≡ false = le-ltb q (block + 1) (omega arith) in let c : ltb q block ≡ false = le-ltb q block le in rw (b, c) refl)
  ]
]

pub run_none : (old : ℕ → Bool) (first end : ℕ) → end ≤ first → (q : ℕ) → old q ≡ ((leb first q && ltb q end) || old q)
run_none old first end none q = elim (cases_lt q first) [
  | inl lt ↦ (let a : leb first q ≡ false = lt-leb first q lt in rw a refl)
  | inr le ↦ (let a : leb first q ≡ true = le-leb first q le in let b : ltb q end ≡ false = le-ltb q end (omega arith) in rw (a, b) refl)
]
