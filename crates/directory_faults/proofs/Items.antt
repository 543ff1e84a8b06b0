-- What holds of all items of a list, one after the other.
use Rattle.std.proofs.Common.{◌≡◌, ◌∙◌, ℕ, ◌+◌, ◌<◌, ◌≤◌, List, length, Some, Contains, slice_get, sym, ap, subst, arith, ⊎_elim}
use Rattle.std.proofs.lemmas.Bool.{cases_lt}
use Rattle.std.proofs.lemmas.Option.{slice_get_within}
use Rattle.directory_faults.proofs.Inserted.{among_at}

some_same : {X : Type 0} (a b : X) → Some a ≡ Some b → a ≡ b
some_same a b e = cc

-- all items in front of a place are so
abbrev pub AreSo : {X : Type 0} → (X → Type 0) → List X → ℕ → Type 0
AreSo {X} P items number = (k : ℕ) (item : X) → k < number → slice_get items k ≡ Some item → P item

pub so_more : {X : Type 0} (P : X → Type 0) (items : List X) (number : ℕ) (one : X) → slice_get items number ≡ Some one → P one → AreSo P items number → AreSo P items (number + 1)
so_more P items number one at is before k item below there =
    ⊎_elim (λ low. before k item low there)
    (λ high.
    let here : k ≡ number = omega (arith, below, high) in
    subst P (some_same one item (sym at ∙ ap (slice_get items) (sym here) ∙ there)) is)
    (cases_lt k number)

pub so_all : {X : Type 0} (P : X → Type 0) (items : List X) (number : ℕ) → length items ≤ number → AreSo P items number → (item : X) → Contains items item → P item
so_all P items number whole are item among =
    let at = among_at items item among in
    are at.0 item (omega (arith, whole, slice_get_within items at.0 item at.1)) at.1
