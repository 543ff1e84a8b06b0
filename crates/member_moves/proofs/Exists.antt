-- Where a volume is open, one is at each end.
use Rattle.std.proofs.Common.{◌≡◌, ◌∙◌, ◌⊎◌, inl, inr, ℕ, zero, suc, ◌+◌, ◌*◌, ◌<◌, ◌≤◌, true, false, List, length, get_or, Option, Some, None, arith, refl, sym, subst}
use Rattle.std.proofs.lemmas.Bool.{cases_Bool, cases_lt, true≢false}
use Rattle.std.proofs.lemmas.List.{get_or_default}
use Rattle.member_moves.specs.Balance.{AreCounts, HasShareUpTo, IsAtEnd, IsOpenOf, Precedes}
use Rattle.member_moves.specs.declared.balance.End.{End}
use Rattle.member_moves.specs.declared.balance.End.TheVariants.{Fullest, Emptiest}
use Rattle.member_moves.specs.declared.counts.VolCount.{VolCount}
use Rattle.member_moves.proofs.Found.{IsFound, found_all, found_before, found_behind, found_closed, none_found}

-- the used share of the first volume is below that of the second
abbrev HasLess : VolCount → VolCount → Type 0
HasLess a b = a.used * b.pages < b.used * a.pages

-- one of two volumes is taken before the other
either_precedes : (end : End) (a b : VolCount) → Precedes end a b ⊎ Precedes end b a
either_precedes end a b = by end (cases_lt (a.used * b.pages) (b.used * a.pages)) (cases_lt (b.used * a.pages) (a.used * b.pages)) (cases_lt a.vol b.vol)
  where
    by : (e : End) → (HasLess a b) ⊎ (HasShareUpTo b a) → (HasLess b a) ⊎ (HasShareUpTo a b)
        → (a.vol < b.vol) ⊎ (b.vol ≤ a.vol) → Precedes e a b ⊎ Precedes e b a
    by Fullest (inl less) _ _ = inr (omega arith, λ same. omega arith)
    by Fullest (inr more) (inl less) _ = inl (more, λ same. omega arith)
    by Fullest (inr more) (inr same) (inl first) = inl (more, λ _. omega arith)
    by Fullest (inr more) (inr same) (inr behind) = inr (same, λ _. behind)
    by Emptiest (inl less) _ _ = inl (omega arith, λ same. omega arith)
    by Emptiest (inr more) (inl less) _ = inr (more, λ same. omega arith)
    by Emptiest (inr more) (inr same) (inl first) = inl (same, λ _. omega arith)
    by Emptiest (inr more) (inr same) (inr behind) = inr (more, λ _. behind)

-- what a search over the volumes below n finds
found_below : (end : End) (counts : List VolCount) (d : VolCount) → AreCounts counts → (n : ℕ)
    → n ≤ length counts → (found : Option VolCount) × IsFound end counts n found
found_below end counts d sound zero within = (None, λ k e less. absurd (none_below k less))
  where
    none_below : (k : ℕ) → k < 0 → ⊥
    none_below k less = omega arith
found_below end counts d sound (suc n) within = next (cases_Bool x.closed) (found_below end counts d sound n (omega arith))
  where
    x : VolCount
    x = get_or counts n d

    is : x ≡ get_or counts n x
    is = get_or_default counts n d x (omega arith)

    at_next : (found : Option VolCount) → IsFound end counts (n + 1) found
        → (found : Option VolCount) × IsFound end counts (suc n) found
    at_next found holds = (found, subst (λ (m : ℕ). IsFound end counts m found) (omega arith) holds)

    next : (x.closed ≡ true) ⊎ (x.closed ≡ false) → (found : Option VolCount) × IsFound end counts n found
        → (found : Option VolCount) × IsFound end counts (suc n) found
    next (inl closed) (found, holds) =
        at_next found (found_closed end counts n x found (omega arith) is holds
        (λ open_one. true≢false (sym closed ∙ open_one)))
    next (inr open_one) (None, holds) =
        at_next (Some x) (found_before end counts n x None sound (omega arith) is holds open_one tt)
    next (inr open_one) (Some f, holds) = compared (either_precedes end x f)
      where
        compared : Precedes end x f ⊎ Precedes end f x → (found : Option VolCount) × IsFound end counts (suc n) found
        compared (inl before) =
            at_next (Some x) (found_before end counts n x (Some f) sound (omega arith) is holds open_one before)
        compared (inr behind) =
            at_next (Some f) (found_behind end counts n x (Some f) (omega arith) is holds behind false refl tt)

-- where a volume is open, one is at each end
pub one_at_end : (end : End) (counts : List VolCount) (a : VolCount) → AreCounts counts
    → IsOpenOf counts a → (c : VolCount) × IsAtEnd end counts c
one_at_end end counts a sound is_open = by (found_below end counts a sound (length counts) (omega arith))
  where
    by : (found : Option VolCount) × IsFound end counts (length counts) found → (c : VolCount) × IsAtEnd end counts c
    by (None, holds) = absurd (none_found end counts (length counts) None refl holds a is_open)
    by (Some c, holds) = (c, found_all end counts (length counts) (Some c) refl holds)
