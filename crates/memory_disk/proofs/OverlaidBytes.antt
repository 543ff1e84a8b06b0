-- What a write to a part of a list leaves at each place.
use Rattle.std.proofs.Common.{◌≡◌, ◌&&◌, ◌||◌, ℕ, ◌+◌, ◌-◌, ◌*◌, ◌/◌, ◌<◌, ◌≤◌, Bool, cond, List, length, get_or, take, drop, leb, ltb, refl, sym, ◌∙◌, ap, inl, inr, arith, rules, length-append, length-take, length-drop}
use Rattle.std.proofs.lemmas.Bool.{cases_lt, lt-leb, le-leb, lt-ltb, le-ltb}
use Rattle.std.proofs.lemmas.List.{places}
use borrow.Rule.Slice.PartMut.{put_mid}
use Rattle.memory_disk.specs.Moment.{overlaid, marked}

module _ {X : Type 0} (a n : ℕ) (xs ys : List X) (size : length ys ≡ n) (fits : a + n ≤ length xs) (k : ℕ) (d : X) where
  below : k < a → get_or (put_mid a n xs ys) k d ≡ get_or xs k d
  below lt = search (rules, places)

  within : a ≤ k → k < a + n → get_or (put_mid a n xs ys) k d ≡ get_or ys (k - a) d
  within le lt = search (rules, places)

  above : a + n ≤ k → get_or (put_mid a n xs ys) k d ≡ get_or xs k d
  above le = search (rules, places)

  pub get_or-put_mid : get_or (put_mid a n xs ys) k d ≡ cond (leb a k && ltb k (a + n)) (get_or ys (k - a) d) (get_or xs k d)
  get_or-put_mid = elim (cases_lt k a) [
    | inl lt ↦ below lt ∙ (rw (lt-leb a k lt) refl)
    | inr le ↦ elim (cases_lt k (a + n)) [
      | inl lt ↦ within le lt ∙ (rw (le-leb a k le, lt-ltb k (a + n) lt) refl)
      | inr far ↦ above far ∙ (rw (le-leb a k le, le-ltb k (a + n) far) refl)
    ]
  ]

pub length-put_mid : {X : Type 0} (a n : ℕ) (xs ys : List X) → length ys ≡ n → a + n ≤ length xs → length (put_mid a n xs ys) ≡ length xs
length-put_mid a n xs ys size fits = simp (length-append, length-take, length-drop) (omega arith)

pub length-mid : {X : Type 0} (a n : ℕ) (xs : List X) → a + n ≤ length xs → length (take n (drop a xs)) ≡ n
length-mid a n xs fits = simp (length-take, length-drop) (omega arith)

-- bytes written to a part of a list
pub byte_overlaid : (xs old ys bytes : List ℕ) (at n : ℕ) → xs ≡ old → ys ≡ bytes → n ≡ length bytes → at + n ≤ length xs → (λ k. get_or (put_mid at n xs ys) k 0) ≡ overlaid (λ k. get_or old k 0) at bytes
byte_overlaid xs old ys bytes at n was same size fits = λ i k. place k i
  where
    place : (k : ℕ) → get_or (put_mid at n xs ys) k 0 ≡ overlaid (λ k'. get_or old k' 0) at bytes k
    place k = rw (get_or-put_mid at n xs ys (ap length same ∙ sym size) fits k 0, was, same, size) refl

-- a block is among these if and only if a byte of it is among theirs
leb-blocks : (block k : ℕ) → leb block (k / 512) ≡ leb (512 * block) k
leb-blocks block k = elim (cases_lt k (512 * block)) [
  | inl lt ↦ lt-leb block (k / 512) (omega arith) ∙ sym (lt-leb (512 * block) k lt)
  | inr le ↦ le-leb block (k / 512) (omega arith) ∙ sym (le-leb (512 * block) k le)
]

ltb-blocks : (block n k : ℕ) → ltb (k / 512) (block + n) ≡ ltb k (512 * block + 512 * n)
ltb-blocks block n k = elim (cases_lt k (512 * block + 512 * n)) [
  | inl lt ↦ lt-ltb (k / 512) (block + n) (omega arith) ∙ sym (lt-ltb k (512 * block + 512 * n) lt)
  | inr le ↦ le-ltb (k / 512) (block + n) (omega arith) ∙ sym (le-ltb k (512 * block + 512 * n) le)
]

-- marks of blocks, as marks of their bytes
pub marked-blocks : (old new : ℕ → Bool) (first end size : ℕ) → size ≡ 512 * (end - first) → first ≤ end → ((q : ℕ) → new q ≡ ((leb first q && ltb q end) || old q)) → (λ k. new (k / 512)) ≡ marked (λ k. old (k / 512)) (512 * first) size
marked-blocks old new first end size is order marks = λ i k. place k i
  where
    place : (k : ℕ) → new (k / 512) ≡ marked (λ k'. old (k' / 512)) (512 * first) size k
    place k =
        let n : first + (end - first) ≡ end = omega arith in
        marks (k / 512) ∙ (rw (leb-blocks first k, sym n, ltb-blocks first (end - first) k, is) refl)

-- a block that is replaced by another leaves the others
pub get_or-other_block : (xs ys : List ℕ) (block n k : ℕ) → n ≡ 512 → length ys ≡ n → 512 * block + n ≤ length xs → (k / 512 ≡ block → ⊥) → get_or (put_mid (512 * block) n xs ys) k 0 ≡ get_or xs k 0
get_or-other_block xs ys block n k whole size fits other = elim (cases_lt k (512 * block)) [
  | inl lt ↦ below (512 * block) n xs ys size fits k 0 lt
  | inr le ↦ elim (cases_lt k (512 * block + n)) [ inl lt ↦ absurd (other (omega arith)) | inr far ↦ above (512 * block) n xs ys size fits k 0 far ]
]
