-- What is after the first of some elements that passes.
use Rattle.std.proofs.Common.{◌≡◌, ℕ, suc, zero, ◌+◌, ◌-◌, List, [], ◌∷◌, length, take, drop, refl, ◌∙◌, arith}
use Rattle.std.proofs.Math.Seq.{drop-drop}
use Rattle.std.proofs.lemmas.Grind.{common_steps}

drop-none : (n : ℕ) (xs : List ℕ) → length (drop n xs) ≡ 0 → drop n xs ≡ []
drop-none zero [] e = refl
drop-none zero (x ∷ xs) e = absurd (omega (arith, e))
drop-none (suc n) [] e = refl
drop-none (suc n) (x ∷ xs) e = drop-none n xs e

behind_first : (xs : List ℕ) → take (length xs - 1) (drop 1 xs) ≡ drop 1 xs
behind_first xs = grind (arith, common_steps)

pub behind_next : (n : ℕ) (xs : List ℕ) → take (length (drop n xs) - 1) (drop 1 (drop n xs)) ≡ drop (n + 1) xs
behind_next n xs = behind_first (drop n xs) ∙ drop-drop 1 n xs

pub behind_none : (n : ℕ) (xs : List ℕ) → length (drop n xs) ≡ 0 → drop n xs ≡ drop (n + 1) xs
behind_none n xs e = rw (← drop-drop 1 n xs, drop-none n xs e) refl
