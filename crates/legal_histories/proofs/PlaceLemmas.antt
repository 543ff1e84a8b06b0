-- Places in lists: an element in the middle, what stands before and after it, and the last one that
-- passes a test.
use Rattle.std.proofs.Common.{◌≡◌, suc, ◌+◌, ◌-◌, ◌<◌, ◌≤◌, Bool, true, false, cond, not, ◌||◌, List, [], ◌∷◌, ◌++◌, length, refl, sym, ap, subst, ◌∙◌, arith, append_assoc, length-append, length-take}
use Rattle.std.proofs.lemmas.List.{length-reverse, reverse-append}
use Rattle.std.specs.List.{before_last, list_any, prefix_len, suffix_len}
use Rattle.std.specs.Prelude.{reverse}

-- ---- heads and tails

first_or : {X : Type 0} → X → List X → X
first_or d [] = d
first_or d (x ∷ xs) = x

tail_of : {X : Type 0} → List X → List X
tail_of [] = []
tail_of (x ∷ xs) = xs

pub same_first : {X : Type 0} (x y : X) (xs ys : List X) → x ∷ xs ≡ y ∷ ys → x ≡ y
unfolding first_or
same_first x y xs ys e = ap (first_or x) e

pub same_tail : {X : Type 0} (x y : X) (xs ys : List X) → x ∷ xs ≡ y ∷ ys → xs ≡ ys
unfolding tail_of
same_tail x y xs ys e = ap tail_of e

-- ---- a list in two ways

-- a front that is long enough has the element, and the rest goes on after it
pub has_middle : {X : Type 0} (front later before : List X) (x : X) (after : List X) → front ++ later ≡ before ++ x ∷ after → length before < length front
    → (between : List X) × (front ≡ before ++ x ∷ between) × (after ≡ between ++ later)
has_middle [] later before x after same long = absurd (omega arith)
has_middle (y ∷ front) later [] x after same long =
    (front, ap (λ h. h ∷ front) (same_first y x (front ++ later) after same), sym (same_tail y x (front ++ later) after same))
has_middle (y ∷ front) later (z ∷ before) x after same long =
    let rest = has_middle front later before x after (same_tail y z (front ++ later) (before ++ x ∷ after) same) (omega (arith, long)) in
    (rest.0, (λ i. same_first y z (front ++ later) (before ++ x ∷ after) same i ∷ rest.1 i), rest.2)

-- a list that grew by one at its end
pub data AtEnd {X : Type 0} : List X → Type 0 where
  nothing : AtEnd []
  one_more : (xs : List X) (x : X) → AtEnd (xs ++ x ∷ [])

end_after : {X : Type 0} (x : X) (xs : List X) → AtEnd xs → AtEnd (x ∷ xs)
end_after x _ nothing = one_more [] x
end_after x _ (one_more xs y) = one_more (x ∷ xs) y

pub at_end : {X : Type 0} (xs : List X) → AtEnd xs
at_end [] = nothing
at_end (x ∷ xs) = end_after x xs (at_end xs)

-- two lists that end with one element each are the same up to it, and have the same one
pub same_end : {X : Type 0} (xs ys : List X) (x y : X) → xs ++ x ∷ [] ≡ ys ++ y ∷ [] → (xs ≡ ys) × (x ≡ y)
same_end [] [] x y same = (refl, same_first x y [] [] same)
same_end [] (z ∷ ys) x y same = absurd (omega (arith, ap length (same_tail x z [] (ys ++ y ∷ []) same), length-append ys (y ∷ [])))
same_end (z ∷ xs) [] x y same = absurd (omega (arith, ap length (same_tail z y (xs ++ x ∷ []) [] same), length-append xs (x ∷ [])))
same_end (z ∷ xs) (w ∷ ys) x y same =
    let rest = same_end xs ys x y (same_tail z w (xs ++ x ∷ []) (ys ++ y ∷ []) same) in
    ((λ i. same_first z w (xs ++ x ∷ []) (ys ++ y ∷ []) same i ∷ rest.0 i), rest.1)

-- the second of two elements stands in the first's rest, is it, or the other way round
pub data Order {X : Type 0} (b1 : List X) (x1 : X) (a1 b2 : List X) (x2 : X) (a2 : List X) : Type 0 where
  is_first : (between : List X) → a1 ≡ between ++ x2 ∷ a2 → Order b1 x1 a1 b2 x2 a2
  is_same : x1 ≡ x2 → Order b1 x1 a1 b2 x2 a2
  is_second : (between : List X) → a2 ≡ between ++ x1 ∷ a1 → Order b1 x1 a1 b2 x2 a2

pub order : {X : Type 0} (b1 : List X) (x1 : X) (a1 b2 : List X) (x2 : X) (a2 : List X) → b1 ++ x1 ∷ a1 ≡ b2 ++ x2 ∷ a2 → Order b1 x1 a1 b2 x2 a2
order [] x1 a1 [] x2 a2 e = is_same (same_first x1 x2 a1 a2 e)
order [] x1 a1 (y ∷ b2) x2 a2 e = is_first b2 (same_tail x1 y a1 (b2 ++ x2 ∷ a2) e)
order (y ∷ b1) x1 a1 [] x2 a2 e = is_second b1 (sym (same_tail y x2 (b1 ++ x1 ∷ a1) a2 e))
order (y ∷ b1) x1 a1 (z ∷ b2) x2 a2 e =
    elim (order b1 x1 a1 b2 x2 a2 (same_tail y z (b1 ++ x1 ∷ a1) (b2 ++ x2 ∷ a2) e)) as (λ _. Order (y ∷ b1) x1 a1 (z ∷ b2) x2 a2) [
      | is_first between is ↦ is_first between is
      | is_same is ↦ is_same is
      | is_second between is ↦ is_second between is
    ]

-- ---- the last element that passes a test

prefix_before : {X : Type 0} (p : X → Bool) (xs : List X) (x : X) (ys : List X) → p x ≡ false → prefix_len p (xs ++ x ∷ ys) ≤ length xs
prefix_before p [] x ys fails = rw fails (omega arith)
prefix_before p (y ∷ xs) x ys fails =
    elim (p y) as (λ b. cond b (1 + prefix_len p (xs ++ x ∷ ys)) 0 ≤ suc (length xs)) [
      | true ↦ omega (arith, prefix_before p xs x ys fails)
      | false ↦ omega arith
    ]

-- an element that passes stands no later than the last that does
pub last_place : {X : Type 0} (p : X → Bool) (xs : List X) (x : X) (ys : List X) → p x ≡ true → length xs ≤ length (before_last p (xs ++ x ∷ ys))
last_place p xs x ys passes =
    let whole : reverse (xs ++ x ∷ ys) ≡ reverse ys ++ x ∷ reverse xs =
    reverse-append xs (x ∷ ys) ∙ ap (λ r. r ++ reverse xs) (reverse-append (x ∷ []) ys) ∙ append_assoc (reverse ys) (x ∷ []) (reverse xs) in
    let short : suffix_len (λ y. not (p y)) (xs ++ x ∷ ys) ≤ length ys =
    subst (λ n. suffix_len (λ y. not (p y)) (xs ++ x ∷ ys) ≤ n) (length-reverse ys)
    (subst (λ l. prefix_len (λ y. not (p y)) l ≤ length (reverse ys)) (sym whole) (prefix_before (λ y. not (p y)) (reverse ys) x (reverse xs) (ap not passes))) in
    let all : length (xs ++ x ∷ ys) ≡ length xs + suc (length ys) = length-append xs (x ∷ ys) in
    subst (λ n. length xs ≤ n) (sym (length-take (length (xs ++ x ∷ ys) - suffix_len (λ y. not (p y)) (xs ++ x ∷ ys) - 1) (xs ++ x ∷ ys))) (omega (arith, short, all))

pub some_passes : {X : Type 0} (p : X → Bool) (xs : List X) (x : X) (ys : List X) → p x ≡ true → list_any p (xs ++ x ∷ ys) ≡ true
some_passes p [] x ys passes = rw passes refl
some_passes p (y ∷ xs) x ys passes =
    elim (p y) as (λ b. (b || list_any p (xs ++ x ∷ ys)) ≡ true) [ true ↦ refl | false ↦ some_passes p xs x ys passes ]
