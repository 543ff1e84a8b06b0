-- Parts joined by a byte.
use Rattle.std.proofs.Common.{◌≡◌, ℕ, List, [], ◌∷◌, ◌++◌, map, refl, sym, ap}
use Rattle.std.specs.List.{flat_map, join_with_byte}
use Rattle.std.proofs.lemmas.List.{append_assoc, append-nil}

-- the first part, and each other one after the byte
pub join_with_byte-cons : (c : ℕ) (part : List ℕ) (parts : List (List ℕ)) → join_with_byte c (part ∷ parts) ≡ part ++ flat_map (λ p. c ∷ p) parts
join_with_byte-cons c part [] = sym (append-nil part)
join_with_byte-cons c part (next ∷ parts) = ap (λ xs. part ++ (c ∷ xs)) (join_with_byte-cons c next parts)

pub flat_map-map : {X Y A : Type 0} (f : Y → List A) (g : X → Y) (xs : List X) → flat_map f (map g xs) ≡ flat_map (λ x. f (g x)) xs
flat_map-map f g [] = refl
flat_map-map f g (x ∷ xs) = ap (λ ys. f (g x) ++ ys) (flat_map-map f g xs)

-- a text to which parts were added one after another
pub added : (out name a b c d place : List ℕ) → ((((((out ++ name) ++ a) ++ b) ++ c) ++ d) ++ 32 ∷ []) ++ place ≡ out ++ (name ++ (((a ++ b) ++ c) ++ (d ++ 32 ∷ place)))
added out name a b c d place =
    rw (
      append_assoc out name a,
      append_assoc out (name ++ a) b,
      append_assoc out ((name ++ a) ++ b) c,
      append_assoc out (((name ++ a) ++ b) ++ c) d,
      append_assoc out ((((name ++ a) ++ b) ++ c) ++ d) (32 ∷ []),
      append_assoc out (((((name ++ a) ++ b) ++ c) ++ d) ++ 32 ∷ []) place,
      append_assoc name a b,
      append_assoc name (a ++ b) c,
      append_assoc name ((a ++ b) ++ c) d,
      append_assoc name (((a ++ b) ++ c) ++ d) (32 ∷ []),
      append_assoc name ((((a ++ b) ++ c) ++ d) ++ 32 ∷ []) place,
      append_assoc ((a ++ b) ++ c) d (32 ∷ []),
      append_assoc ((a ++ b) ++ c) (d ++ 32 ∷ []) place,
      append_assoc d (32 ∷ []) place,
    ) refl
