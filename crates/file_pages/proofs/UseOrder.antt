-- Where numbers come in the order of use.
use Rattle.std.proofs.Common.{◌≡◌, ◌≢◌, ◌==◌, ℕ, zero, suc, ◌+◌, ◌≤◌, Bool, true, false, cond, List, [], ◌∷◌, ◌++◌, length, Option, refl, sym, subst, arith}
use Rattle.std.proofs.lemmas.Bool.{both_ways, eq-eqb}
use Rattle.page_cache.specs.declared.frame.Frame.{Frame}
use Rattle.page_cache.specs.Frames.{is_clean, placed, without}
use Rattle.file_pages.specs.Lent.{ComesWithin}

-- among the first k is among the first k + 1
more : (k number : ℕ) (order : List ℕ) → ComesWithin k number order → ComesWithin (suc k) number order
unfolding ComesWithin
more k number [] within = tt
more zero number (n ∷ order) within = within.1
more (suc k) number (n ∷ order) within = more k number order within

-- what comes first comes among the first k + 1
first_of : (k number : ℕ) (order : List ℕ) → ComesWithin 1 number order → ComesWithin (suc k) number order
first_of zero number order within = within
first_of (suc k) number order within = more (suc k) number order (first_of k number order within)

-- it comes no later once another number has gone
without_one : (k number other : ℕ) (order : List ℕ) → ComesWithin k number order → ComesWithin k number (without other order)
unfolding ComesWithin
without_one k number other [] within = tt
without_one zero number other (n ∷ order) within = go (other == n) (without_one zero number other order within.1)
  where
    go : (b : Bool) → ComesWithin zero number (without other order) → ComesWithin zero number (cond b (without other order) (n ∷ without other order))
    go true rest = rest
    go false rest = (within.0, rest)
without_one (suc k) number other (n ∷ order) within = go (other == n) (without_one k number other order within)
  where
    go : (b : Bool) → ComesWithin k number (without other order) → ComesWithin (suc k) number (cond b (without other order) (n ∷ without other order))
    go true rest = more k number (without other order) rest
    go false rest = rest

-- and not at all once it has gone itself
gone : (number : ℕ) (order : List ℕ) → ComesWithin 0 number (without number order)
unfolding ComesWithin
gone number [] = tt
gone number (n ∷ order) = go (number == n) refl (gone number order)
  where
    go : (b : Bool) → (number == n) ≡ b → ComesWithin 0 number (without number order) → ComesWithin 0 number (cond b (without number order) (n ∷ without number order))
    go true is rest = rest
    go false is rest = (λ same. both_ways (number == n) is (eq-eqb number n same), rest)

-- a number comes first once its clean frame is used
pub used_itself : (k number : ℕ) (frame : Option Frame) (order : List ℕ) → is_clean frame ≡ true → ComesWithin (k + 1) number (placed number frame order)
unfolding ComesWithin
used_itself k number frame order clean =
    let is : suc k ≡ k + 1 = omega arith in
    let first : ComesWithin 1 number (number ∷ without number order) = gone number order in
    subst (λ (n : ℕ). ComesWithin n number (placed number frame order)) is
    (subst (λ (b : Bool). ComesWithin (suc k) number (cond b (number ∷ without number order) (without number order))) (sym clean)
    (first_of k number (number ∷ without number order) first))

-- and by one later once another frame is used
pub used_another : (k number other : ℕ) (frame : Option Frame) (order : List ℕ) → ComesWithin k number order → ComesWithin (k + 1) number (placed other frame order)
unfolding ComesWithin
used_another k number other frame order within =
    let is : suc k ≡ k + 1 = omega arith in
    subst (λ (n : ℕ). ComesWithin n number (placed other frame order)) is (go (is_clean frame) (without_one k number other order within))
  where
    go : (b : Bool) → ComesWithin k number (without other order) → ComesWithin (suc k) number (cond b (other ∷ without other order) (without other order))
    go true rest = rest
    go false rest = more k number (without other order) rest

-- one that comes among the first k is not the last of more than those
pub not_last : (k number goes : ℕ) (earlier : List ℕ) → k ≤ length earlier → ComesWithin k number (earlier ++ goes ∷ []) → number ≢ goes
unfolding ComesWithin
not_last zero number goes [] few within = within.0
not_last (suc k) number goes [] few within = absurd (omega (arith, few))
not_last zero number goes (n ∷ earlier) few within = not_last zero number goes earlier (omega arith) within.1
not_last (suc k) number goes (n ∷ earlier) few within = not_last k number goes earlier (omega (arith, few)) within
