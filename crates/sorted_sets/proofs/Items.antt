-- Items of a list that was lent.
use Rattle.std.proofs.Common.{◌≡◌, ◌<◌, ℕ, List, get_or, length, refl, subst}
use Rattle.std.proofs.lemmas.Option.{get_or_from_slice_get, slice_get_read}

-- the item of a list that equals another is the same of that one
pub item_of : {X : Type 0} (items lent : List X) (number : ℕ) (item : X) → lent ≡ items → number < length lent → item ≡ get_or lent number item → (d : X) → get_or items number d ≡ item
item_of {X} items lent number item same within is d =
    subst (λ (l : List X). get_or l number d ≡ item) same (get_or_from_slice_get lent number item d (slice_get_read lent (length lent) number item refl within is))
