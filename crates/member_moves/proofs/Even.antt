-- The fullest and the emptiest open volume are each one volume.
use Rattle.std.proofs.Common.{◌≡◌, ◌∙◌, ◌⊎◌, inl, inr, ℕ, ◌<◌, ◌≤◌, List, get_or, Contains, arith, sym, ap, subst}
use Rattle.std.proofs.lemmas.Bool.{cases_order}
use Rattle.std.proofs.lemmas.List.{get_or_default}
use Rattle.member_moves.specs.Balance.{AreCounts, AreEven, IsAtEnd, IsEmptiest, IsFullest, IsLevel, IsOpenOf, NoneIsOpen, Precedes}
use Rattle.member_moves.specs.declared.balance.End.{End}
use Rattle.member_moves.specs.declared.balance.End.TheVariants.{Fullest, Emptiest}
use Rattle.member_moves.specs.declared.counts.VolCount.{VolCount}

-- of distinct volumes one alone has a number
pub one_volume : (counts : List VolCount) (a b : VolCount) → AreCounts counts → Contains counts a
    → Contains counts b → a.vol ≡ b.vol → a ≡ b
one_volume counts a b sound at_a at_b same = by (cases_order at_a.0 at_b.0)
  where
    a_is : get_or counts at_a.0 b ≡ a
    a_is = get_or_default counts at_a.0 b a at_a.1 ∙ at_a.2

    by : (at_a.0 ≡ at_b.0) ⊎ ((at_a.0 < at_b.0) ⊎ (at_b.0 < at_a.0)) → a ≡ b
    by (inl e) = sym a_is ∙ ap (λ (k : ℕ). get_or counts k b) e ∙ at_b.2
    by (inr (inl less)) =
        absurd (sound.distinct at_a.0 at_b.0 b less at_b.1
        (ap (λ (c : VolCount). c.vol) a_is ∙ same ∙ sym (ap (λ (c : VolCount). c.vol) at_b.2)))
    by (inr (inr less)) =
        absurd (sound.distinct at_b.0 at_a.0 b less at_a.1
        (ap (λ (c : VolCount). c.vol) at_b.2 ∙ sym same
        ∙ sym (ap (λ (c : VolCount). c.vol) a_is)))

-- the volume at an end is open, and is taken before each open one
open_at : (end : End) (counts : List VolCount) (c : VolCount) → IsAtEnd end counts c
    → IsOpenOf counts c
open_at Fullest counts c is = is.open_volume
open_at Emptiest counts c is = is.open_volume

before_each : (end : End) (counts : List VolCount) (c d : VolCount) → IsAtEnd end counts c
    → IsOpenOf counts d → Precedes end c d
before_each Fullest counts c d is there = (is.greatest d there, is.first d there)
before_each Emptiest counts c d is there = (is.least d there, is.first d there)

-- of two that are taken one before the other either way, the numbers are the same
number_up_to : (end : End) (a b : VolCount) → Precedes end a b → Precedes end b a → a.vol ≤ b.vol
number_up_to Fullest a b first second = first.1 second.0
number_up_to Emptiest a b first second = first.1 second.0

-- so there is one at an end
one_at : (end : End) (counts : List VolCount) (c d : VolCount) → AreCounts counts
    → IsAtEnd end counts c → IsAtEnd end counts d → c ≡ d
one_at end counts c d sound at_c at_d =
    let open_c = open_at end counts c at_c in
    let open_d = open_at end counts d at_d in
    let before = before_each end counts c d at_c open_d in
    let behind = before_each end counts d c at_d open_c in
    let up : c.vol ≤ d.vol = number_up_to end c d before behind in
    let down : d.vol ≤ c.vol = number_up_to end d c behind before in
    one_volume counts c d sound open_c.there open_d.there (omega arith)

-- volumes are even where these two are level
pub even_by : (counts : List VolCount) (f e : VolCount) → AreCounts counts → IsFullest counts f
    → IsEmptiest counts e → IsLevel f e → AreEven counts
even_by counts f e sound full empty level g d other_full other_empty =
    subst (λ (x : VolCount). IsLevel x d) (one_at Fullest counts f g sound full other_full)
    (subst (IsLevel f) (one_at Emptiest counts e d sound empty other_empty) level)

-- and where none is open
pub even_none : (counts : List VolCount) → NoneIsOpen counts → AreEven counts
even_none counts none f e full empty = absurd (none f full.open_volume)
