-- How many of many spans have a number, with one span more.
use Rattle.std.proofs.Common.{◌≡◌, ◌∙◌, ◌⊎◌, ◌↔◌, ◌&&◌, ℕ, ◌+◌, ◌<◌, ◌≤◌, Bool, true, false, cond, Result, Ok, Err, OnOk, nat_le, nat_lt, List, [], ◌∷◌, ◌++◌, get_or, length, take, zero, suc, max, min, inl, inr, refl, sym, ap, subst, arith, true≢false}
use Rattle.std.specs.List.{AllByRecursion}
use Rattle.std.proofs.lemmas.Bool.{cases_lt, leb-true, le-leb, ltb-true, lt-ltb}
use Rattle.std.specs.List.Sorted.{IsNonDecreasingBy}
use Rattle.std.proofs.lemmas.List.Sums.{sum_by-append}
use Rattle.sorted_sets.specs.SpanMembers.{HasAnyOf, IsOf}
use Rattle.sorted_sets.specs.declared.span.Span.{Span}
use Rattle.sorted_sets.specs.Counts.{EndsAt, IsBehind, counts, has}

-- a span has a number, and then counts for it, or not
record IsCounted (n : ℕ) (span : Span) : Type 0 where
  is : (IsOf span n × (has n span ≡ 1)) ⊎ ((IsOf span n → ⊥) × (has n span ≡ 0))

counted : (n : ℕ) (span : Span) → IsCounted n span
counted n span = by_from (nat_le span.from n) refl
  where
    by_to : nat_le span.from n ≡ true → (b : Bool) → nat_lt n span.to ≡ b → IsCounted n span
    by_to from true to = record { is = inl ((leb-true span.from n from, ltb-true n span.to to), (λ i. cond (from i && to i) 1 0)) }
    by_to from false to = record { is = inr ((λ is. true≢false (sym (lt-ltb n span.to is.1) ∙ to)), (λ i. cond (from i && to i) 1 0)) }

    by_from : (b : Bool) → nat_le span.from n ≡ b → IsCounted n span
    by_from true from = by_to from (nat_lt n span.to) refl
    by_from false from = record { is = inr ((λ is. true≢false (sym (le-leb span.from n is.0) ∙ from)), (λ i. cond (from i && nat_lt n span.to) 1 0)) }

counts_more : (spans : List Span) (span : Span) (n : ℕ) → counts (spans ++ span ∷ []) n ≡ counts spans n + has n span
counts_more spans span n = sum_by-append (has n) spans (span ∷ []) ∙ ap (λ k. counts spans n + k) last
  where
    last : counts (span ∷ []) n ≡ has n span
    last = omega arith

-- all that begin before a number begin before a later one
earlier_still : (earlier : List Span) (low n : ℕ) → low ≤ n → AllByRecursion (λ span. span.from ≤ low) earlier → AllByRecursion (λ span. span.from ≤ n) earlier
earlier_still [] low n le all = tt
earlier_still (span ∷ spans) low n le all = (omega (arith, all.0, le), earlier_still spans low n le all.1)

module _ (earlier : List Span) (span : Span) (end : ℕ) (behind : IsBehind span earlier) (ends : EndsAt end earlier) where
  -- a part before the end is what an earlier one has too
  pub twice_more : (n : ℕ) → (2 ≤ counts (earlier ++ span ∷ []) n) ↔ ((2 ≤ counts earlier n) ⊎ IsOf (record { from = span.from; to = min span.to end }) n)
  twice_more n = by_span (counted n span).is
    where
      more : counts (earlier ++ span ∷ []) n ≡ counts earlier n + has n span
      more = counts_more earlier span n

      by_span : ((IsOf span n × (has n span ≡ 1)) ⊎ ((IsOf span n → ⊥) × (has n span ≡ 0)))
          → (2 ≤ counts (earlier ++ span ∷ []) n) ↔ ((2 ≤ counts earlier n) ⊎ IsOf (record { from = span.from; to = min span.to end }) n)
      by_span (inl ((from, to), one)) =
          let in_front : (n < end) ↔ (1 ≤ counts earlier n) = ends n (earlier_still earlier span.from n from behind) in (
            (λ two. inr (from, let front : n < end = in_front.1 (omega (arith, two, more, one)) in omega (arith, to, front))),
            λ either. elim either [
              | inl two ↦ omega (arith, two, more)
              | inr part ↦ (let some : 1 ≤ counts earlier n = in_front.0 (omega (arith, part.1)) in omega (arith, some, more, one))
            ],
          )
      by_span (inr (off, none)) = (
        λ two. inl (omega (arith, two, more, none)),
        λ either. elim either [
          | inl two ↦ omega (arith, two, more)
          | inr part ↦ absurd (off (part.0, omega (arith, part.1)))
        ],
      )

  -- and all of them end where the last of both ends
  pub ends_more : EndsAt (max end span.to) (earlier ++ span ∷ [])
  ends_more n all = by_span (counted n span).is
    where
      parted : (spans : List Span) → AllByRecursion (λ s. s.from ≤ n) (spans ++ span ∷ []) → AllByRecursion (λ s. s.from ≤ n) spans × (span.from ≤ n)
      parted [] all = (tt, all.0)
      parted (s ∷ spans) all = let rest = parted spans all.1 in ((all.0, rest.0), rest.1)

      more : counts (earlier ++ span ∷ []) n ≡ counts earlier n + has n span
      more = counts_more earlier span n

      in_front : (n < end) ↔ (1 ≤ counts earlier n)
      in_front = ends n (parted earlier all).0

      by_span : ((IsOf span n × (has n span ≡ 1)) ⊎ ((IsOf span n → ⊥) × (has n span ≡ 0))) → (n < max end span.to) ↔ (1 ≤ counts (earlier ++ span ∷ []) n)
      by_span (inl ((from, to), one)) = ((λ front. omega (arith, more, one)), λ some. omega (arith, to))
      by_span (inr (off, none)) = (
        (λ front. by_end (cases_lt n end) front),
        λ some. (let front : n < end = in_front.1 (omega (arith, some, more, none)) in omega (arith, front)),
      )
        where
          by_end : (n < end) ⊎ (end ≤ n) → n < max end span.to → 1 ≤ counts (earlier ++ span ∷ []) n
          by_end (inl front) less = let some : 1 ≤ counts earlier n = in_front.0 front in omega (arith, some, more)
          by_end (inr past) less = absurd (off ((parted earlier all).1, omega (arith, past, less)))

-- the numbers of a list of one span
pub one_span : (span : Span) (n : ℕ) → HasAnyOf (span ∷ []) n ↔ IsOf span n
one_span span n = ((λ any. subst (λ (s : Span). IsOf s n) (only any) any.2), λ is. (span, (0, omega arith, refl), is))
  where
    only : (any : HasAnyOf (span ∷ []) n) → any.0 ≡ span
    only (s, (k, below, at), is) = sym at ∙ first k below s
      where
        first : (k : ℕ) → k < 1 → (d : Span) → get_or (span ∷ []) k d ≡ span
        first zero below d = refl
        first (suc k) below d = absurd (omega (arith, below))

pub map_ok : {A E P Q : Type 0} (r : Result A E) → (P → Q) → OnOk r P → OnOk r Q
map_ok (Ok a) more is = more is
map_ok (Err e) more is = is

-- no span counts
pub none_counted : EndsAt 0 []
none_counted n all = ((λ less. omega (arith, less)), λ some. omega (arith, some))

-- what is so of each place before one is so of all before it
all_taken : (P : Span → Type 0) (spans : List Span) (i : ℕ) (d : Span) → ((k : ℕ) → k < i → k < length spans → P (get_or spans k d)) → AllByRecursion P (take i spans)
all_taken P spans zero d each = tt
all_taken P [] (suc i) d each = tt
all_taken P (span ∷ spans) (suc i) d each = (each 0 (omega arith) (omega arith), all_taken P spans i d (λ k front below. each (suc k) (omega (arith, front)) (omega (arith, below))))

-- spans in the order in which they begin: each begins where the earlier ones do, or after
pub behind_all : (spans : List Span) (i : ℕ) (d : Span) → IsNonDecreasingBy (λ (s : Span). s.from) spans → i < length spans → IsBehind (get_or spans i d) (take i spans)
behind_all spans i d rise below = all_taken (λ other. other.from ≤ (get_or spans i d).from) spans i d (λ k front within. rise k i d (omega (arith, front)) below)
