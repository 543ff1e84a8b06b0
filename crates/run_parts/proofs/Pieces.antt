-- The front of a list that a piece takes, and what pieces take one after another.
use Rattle.std.proofs.Common.{◌≡◌, ℕ, ◌+◌, ◌<◌, ◌≤◌, List, [], ◌++◌, length, take, drop, arith, subst, sym, length-drop, take-append-drop}
use Rattle.std.proofs.Math.Seq.{take-add}
use Rattle.std.proofs.lemmas.Grind.{common_steps}
use Rattle.std.proofs.lemmas.List.{length-take, drop-drop, nil_from_length}
use Rattle.std.proofs.KnownBytes.{Appends-trans}
use Rattle.std.specs.Io.KnownBytes.{Appends}
use Rattle.std.specs.Prelude.{Option}

-- a piece that holds the front of a list, and the rest of the list, are the list
pub front-and_rest : (bytes piece front : List ℕ) (at n : ℕ) → at + n ≤ length bytes → front ≡ take n (drop at bytes)
    → drop at bytes ≡ take n (front ++ drop n piece) ++ drop (at + n) bytes
front-and_rest bytes piece front at n within same = grind (arith, common_steps, take-append-drop {A = ℕ}, drop-drop {A = ℕ}, length-take {A = ℕ}, length-drop {A = ℕ})

-- the front is empty for want of a byte alone
pub rest-nil : (bytes : List ℕ) (at n room : ℕ) → (n < room → length bytes ≤ at + n) → n ≡ 0 → 0 < room → drop (at + n) bytes ≡ []
rest-nil bytes at n room all none some = grind (arith, common_steps, nil_from_length {X = ℕ})

-- the next piece of a text after a front of it makes a longer front
pub Appends-front : (a b c : Option (List ℕ)) (text : List ℕ) (n m : ℕ) → Appends a b (take n text) → Appends b c (take m (drop n text)) → Appends a c (take (n + m) text)
Appends-front a b c text n m first next = subst (Appends a c) (sym (take-add n m text)) (Appends-trans a b c _ _ first next)
