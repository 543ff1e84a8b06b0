-- The first element that passes, looked for one after another.
use Rattle.std.proofs.Common.{◌≡◌, ℕ, ◌+◌, ◌<◌, Bool, true, false, Option, Some, List, ◌∷◌, length, drop, get_or, refl, sym, ap, ◌∙◌, drop-cons, add-one}
use Rattle.std.specs.List.{find}

next : {X : Type 0} (xs : List X) (i : ℕ) (d : X) → i < length xs → drop i xs ≡ get_or xs i d ∷ drop (i + 1) xs
next xs i d within = drop-cons xs i d within ∙ ap (λ n. get_or xs i d ∷ drop n xs) (sym (add-one i))

pub find-here : {X : Type 0} (p : X → Bool) (xs : List X) (i : ℕ) (d : X) (found : Option X) → i < length xs
    → find p (drop i xs) ≡ found → p (get_or xs i d) ≡ true → Some (get_or xs i d) ≡ found
find-here p xs i d found within is passes = sym (ap (find p) (next xs i d within) ∙ rw passes refl) ∙ is

pub find-next : {X : Type 0} (p : X → Bool) (xs : List X) (i : ℕ) (d : X) (found : Option X) → i < length xs
    → find p (drop i xs) ≡ found → p (get_or xs i d) ≡ false → find p (drop (i + 1) xs) ≡ found
find-next p xs i d found within is fails = sym (ap (find p) (next xs i d within) ∙ rw fails refl) ∙ is
