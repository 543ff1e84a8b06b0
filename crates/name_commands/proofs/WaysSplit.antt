-- The way to a path's last name: that of its directory, and the look into that.
use Rattle.std.proofs.Common.{◌≡◌, ◌∙◌, ◌+◌, ◌<◌, ◌≤◌, ◌++◌, ◌∷◌, ℕ, zero, suc, List, [], Option, Some, None, length, map, take, refl, sym, ap, arith}
use Rattle.std.specs.List.{range_with_len}
use Rattle.std.proofs.lemmas.List.{length-take-le, map-append}
use Rattle.std.proofs.lemmas.List.FromFn.{map-range_with_len_more}
use Rattle.domain_changes.specs.fileset_values.Orders.{Path}
use Rattle.domain_changes.specs.fileset_model.Paths.{directory_refusal, first_refusal, walk_refusal}
use Rattle.domain_changes.specs.fileset_model.declared.fileset.FilesetSlot.{FilesetSlot}
use Rattle.domain_changes.specs.fileset_values.declared.reply.Refusal.{Refusal}

take_front : (c m : ℕ) (xs : Path) → c ≤ m → take c (take m xs) ≡ take c xs
take_front zero m xs few = none (take m xs) ∙ sym (none xs)
  where
    none : (ys : Path) → take zero ys ≡ []
    none [] = refl
    none (y ∷ ys) = refl
take_front (suc c) zero xs few = absurd (omega (arith, few))
take_front (suc c) (suc m) [] few = refl
take_front (suc c) (suc m) (x ∷ xs) few = ap (λ rest. x ∷ rest) (take_front c m xs (omega (arith, few)))

same_over : {X : Type 0} (f g : ℕ → X) (a n : ℕ) → ((c : ℕ) → a ≤ c → c < a + n → f c ≡ g c) → map f (range_with_len a n) ≡ map g (range_with_len a n)
same_over f g a zero same = refl
same_over f g a (suc n) same = λ i. same a (omega arith) (omega arith) i ∷ same_over f g (a + 1) n (λ c from below. same c (omega (arith, from)) (omega (arith, below))) i

first_of : (xs : List (Option Refusal)) (r : Option Refusal) → first_refusal (xs ++ r ∷ []) ≡ first_refusal (first_refusal xs ∷ r ∷ [])
first_of [] r = refl
first_of (None ∷ xs) r = first_of xs r
first_of (Some refusal ∷ xs) r = refl

pub walk_split : (slot : FilesetSlot) (path : Path) (m : ℕ) → length path ≡ m + 1 → walk_refusal slot path ≡ first_refusal (walk_refusal slot (take m path) ∷ directory_refusal slot (take m path) ∷ [])
walk_split slot path m long =
    ap (λ n. first_refusal (map (directory_refusal slot) (map (λ c. take c path) (range_with_len 0 n)))) long
    ∙ ap (λ ps. first_refusal (map (directory_refusal slot) ps)) (map-range_with_len_more (λ c. take c path) 0 m m (omega arith))
    ∙ ap first_refusal (map-append (directory_refusal slot) (map (λ c. take c path) (range_with_len 0 m)) (take m path ∷ []))
    ∙ first_of (map (directory_refusal slot) (map (λ c. take c path) (range_with_len 0 m))) (directory_refusal slot (take m path))
    ∙ ap (λ ps. first_refusal (first_refusal (map (directory_refusal slot) ps) ∷ directory_refusal slot (take m path) ∷ [])) front
  where
    front : map (λ c. take c path) (range_with_len 0 m) ≡ map (λ c. take c (take m path)) (range_with_len 0 (length (take m path)))
    front =
        same_over (λ c. take c path) (λ c. take c (take m path)) 0 m (λ c from below. sym (take_front c m path (omega (arith, below))))
        ∙ ap (λ n. map (λ c. take c (take m path)) (range_with_len 0 n)) (sym (length-take-le m path (omega (arith, long))))
