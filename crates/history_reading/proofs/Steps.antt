-- What is left of a list after one of its elements, and numbers that differ.
use Rattle.std.proofs.Common.{◌≡◌, ◌≢◌, ℕ, ◌+◌, ◌-◌, false, eqb, List, length, take, drop, map, sym, ap, ◌∙◌, arith}
use Rattle.std.proofs.Math.Seq.{drop-drop}
use Rattle.std.proofs.lemmas.Bool.Decides.{nat_tests}
use Rattle.std.proofs.lemmas.List.{drop-map, take_rest}

pub map-behind : {X Y : Type 0} (f : X → Y) (n : ℕ) (xs : List X) → map f (take (length (drop n xs) - 1) (drop 1 (drop n xs))) ≡ drop (n + 1) (map f xs)
map-behind f n xs = ap (map f) (take_rest (drop n xs) 1 ∙ drop-drop 1 n xs) ∙ sym (drop-map f (n + 1) xs)

pub differs : (a b c : ℕ) → a ≡ b → a ≢ c → eqb b c ≡ false
differs a b c e other = grind (arith, nat_tests)
