-- Lists that are made one element at a time.
use Rattle.std.proofs.Common.{◌≡◌, ◌∙◌, ℕ, ◌+◌, ◌<◌, ◌≤◌, List, [], ◌∷◌, ◌++◌, Option, Some, None, get_or, slice_get, length, take, add-one, refl, sym, ap, subst, arith, append_assoc, ⊎_elim}
use Rattle.std.specs.List.{flat_map}
use Rattle.std.proofs.Math.Seq.{take-suc}
use Rattle.std.proofs.lemmas.Grind.{flat_map-append}
use Rattle.std.proofs.lemmas.List.{append-nil}
use Rattle.std.proofs.lemmas.Bool.{cases_lt}
use Rattle.std.proofs.lemmas.Option.{slice_get_past}
use Rattle.index_row_faults.proofs.OfFilesetsReading.Ways.{get_front, get_seam, pushed}

pub taken : {X : Type 0} (all : List X) (k : ℕ) (d : X) → k < length all → take (k + 1) all ≡ take k all ++ get_or all k d ∷ []
taken all k d within = ap (λ n. take n all) (add-one k) ∙ take-suc all k d within

last_of : {X Y : Type 0} (f : X → List Y) (xs : List X) (x : X) → flat_map f (xs ++ x ∷ []) ≡ flat_map f xs ++ f x
last_of {X} {Y} f xs x = flat_map-append f xs (x ∷ []) ∙ ap (λ (l : List Y). flat_map f xs ++ l) (append-nil (f x))

-- what is put behind for each of some elements, with one more of these
pub one_more : {X Y : Type 0} (f : X → List Y) (all : List X) (k : ℕ) (d : X) (first old new : List Y) → k < length all → old ≡ first ++ flat_map f (take k all) → new ≡ old ++ f (get_or all k d)
    → new ≡ first ++ flat_map f (take (k + 1) all)
one_more {X} {Y} f all k d first old new within before more =
    more ∙ ap (λ (l : List Y). l ++ f (get_or all k d)) before ∙ append_assoc first (flat_map f (take k all)) (f (get_or all k d))
    ∙ ap (λ (l : List Y). first ++ l) (sym (last_of f (take k all) (get_or all k d)) ∙ ap (flat_map f) (sym (taken all k d within)))

-- the first elements of a list are as their places want it
pub record UpTo {X : Type 0} (R : ℕ → Option X → Type 0) (xs : List X) (n : ℕ) : Type 0 where
  pub count : length xs ≡ n
  pub each : (p : ℕ) → p < n → R p (slice_get xs p)

pub up_begins : {X : Type 0} (R : ℕ → Option X → Type 0) → UpTo R [] 0
up_begins R = record { count = refl; each = λ p low. absurd (omega (arith, low)) }

pub up_on : {X : Type 0} (R : ℕ → Option X → Type 0) (xs : List X) (n : ℕ) (x : X) → UpTo R xs n → R n (Some x) → UpTo R (xs ++ x ∷ []) (n + 1)
up_on R xs n x up is = record {
  count = pushed xs x ∙ omega (arith, up.count);
  each = λ p below.
      ⊎_elim (λ low. subst (R p) (sym (get_front xs (x ∷ []) p (omega (arith, low, up.count)))) (up.each p low))
      (λ high.
      let last : n ≡ p = omega (arith, below, high) in
      subst (λ k. R k (slice_get (xs ++ x ∷ []) k)) last
      (subst (R n) (sym (subst (λ k. slice_get (xs ++ x ∷ []) k ≡ Some x) up.count (get_seam xs x))) is)) (cases_lt p n);
}

pub up_ends : {X : Type 0} (R : ℕ → Option X → Type 0) (xs : List X) (n : ℕ) → UpTo R xs n → ((p : ℕ) → n ≤ p → R p None) → (p : ℕ) → R p (slice_get xs p)
up_ends R xs n up none p =
    ⊎_elim (λ low. up.each p low)
    (λ high. subst (R p) (sym (slice_get_past xs p (omega (arith, high, up.count)))) (none p high)) (cases_lt p n)
