-- The places of a directory by their indexes, and with one more place after them.
use Rattle.std.proofs.Common.{◌≡◌, ◌∙◌, ℕ, zero, suc, ◌+◌, Bool, true, false, cond, nat_eq, Option, Some, None, is_some, List, [], ◌∷◌, ◌++◌, length, slice_get, get_or, ◌<◌, refl, sym, ap, subst, arith}
use Rattle.std.proofs.lemmas.Bool.{eqb-true, eq-eqb, both_ways, true≢false}
use Rattle.std.proofs.lemmas.Option.{slice_get_read, slice_get_within}
use Rattle.std.specs.Option.{option_map}
use Rattle.metadata_cells.specs.domain_base.declared.place.Home.{Home}
use Rattle.tag_dirs.specs.declared.dir.TagPlace.{TagPlace}
use Rattle.tag_dirs.specs.Directory.{home_with, number_with}
use Rattle.tag_dirs.proofs.Slots.{none_is_some, same_some}

some_is_none : {X : Type 0} (x : X) → Some x ≡ None → ⊥
some_is_none x is = none_is_some x (sym is)

abbrev home_by : TagPlace → List TagPlace → ℕ → Bool → Option Home
home_by x xs i b = cond b (Some x.home) (home_with xs i)

abbrev number_by : List TagPlace → ℕ → Bool → Option ℕ
number_by xs i b = cond b (Some 0) (option_map (λ k. k + 1) (number_with xs i))

-- an index that no place has is not that of the first one, and none of the rest has it
unused_parts : (x : TagPlace) (xs : List TagPlace) (i : ℕ) → home_with (x ∷ xs) i ≡ None → (nat_eq x.index i ≡ false) × (home_with xs i ≡ None)
unused_parts x xs i none = by_test (nat_eq x.index i) refl
  where
    by_test : (b : Bool) → nat_eq x.index i ≡ b → (nat_eq x.index i ≡ false) × (home_with xs i ≡ None)
    by_test true same = absurd (some_is_none x.home (sym (ap (home_by x xs i) same) ∙ none))
    by_test false other = (other, sym (ap (home_by x xs i) other) ∙ none)

-- two places with other indexes do not both have one
not_both : (x p : TagPlace) (i : ℕ) → nat_eq x.index p.index ≡ false → nat_eq x.index i ≡ true → (b : Bool) → nat_eq p.index i ≡ b → nat_eq p.index i ≡ false
not_both x p i other same true is = absurd (both_ways (nat_eq x.index p.index) other (eq-eqb x.index p.index (eqb-true x.index i same ∙ sym (eqb-true p.index i is))))
not_both x p i other same false is = is

-- ---- with one more place

pub get_at : (done : List TagPlace) (p : TagPlace) (ps : List TagPlace) (k : ℕ) → k ≡ length done → slice_get (done ++ p ∷ ps) k ≡ Some p
get_at [] p ps zero is = refl
get_at [] p ps (suc k) is = absurd (omega (arith, is))
get_at (x ∷ xs) p ps zero is = absurd (omega (arith, is))
get_at (x ∷ xs) p ps (suc k) is = get_at xs p ps k (omega (arith, is))

pub home_pushed : (places : List TagPlace) (p : TagPlace) (i : ℕ) → home_with places p.index ≡ None → home_with (places ++ p ∷ []) i ≡ cond (nat_eq p.index i) (Some p.home) (home_with places i)
home_pushed [] p i unused = refl
home_pushed (x ∷ xs) p i unused =
    let parts = unused_parts x xs p.index unused in
    by_test parts.0 (home_pushed xs p i parts.1) (nat_eq x.index i) refl
  where
    after : Option Home → Option Home
    after o = cond (nat_eq p.index i) (Some p.home) o

    by_test : nat_eq x.index p.index ≡ false → home_with (xs ++ p ∷ []) i ≡ after (home_with xs i) → (b : Bool) → nat_eq x.index i ≡ b → home_with (x ∷ xs ++ p ∷ []) i ≡ after (home_with (x ∷ xs) i)
    by_test apart later true same =
        ap (home_by x (xs ++ p ∷ []) i) same ∙ sym (ap (λ b. cond b (Some p.home) (home_with (x ∷ xs) i)) (not_both x p i apart same (nat_eq p.index i) refl) ∙ ap (home_by x xs i) same)
    by_test apart later false other = ap (home_by x (xs ++ p ∷ []) i) other ∙ later ∙ ap after (sym (ap (home_by x xs i) other))

pub number_pushed : (places : List TagPlace) (p : TagPlace) (i : ℕ) → home_with places p.index ≡ None
    → number_with (places ++ p ∷ []) i ≡ cond (nat_eq p.index i) (Some (length places)) (number_with places i)
number_pushed [] p i unused = refl
number_pushed (x ∷ xs) p i unused =
    let parts = unused_parts x xs p.index unused in
    by_test parts.0 (number_pushed xs p i parts.1) (nat_eq x.index i) refl
  where
    next : Option ℕ → Option ℕ
    next o = option_map (λ k. k + 1) o

    after : Option ℕ → Option ℕ
    after o = cond (nat_eq p.index i) (Some (length (x ∷ xs))) o

    shift : (b : Bool) (o : Option ℕ) → next (cond b (Some (length xs)) o) ≡ cond b (Some (length (x ∷ xs))) (next o)
    shift true o = ap Some (omega arith)
    shift false o = refl

    by_test : nat_eq x.index p.index ≡ false → number_with (xs ++ p ∷ []) i ≡ cond (nat_eq p.index i) (Some (length xs)) (number_with xs i) → (b : Bool) → nat_eq x.index i ≡ b
        → number_with (x ∷ xs ++ p ∷ []) i ≡ after (number_with (x ∷ xs) i)
    by_test apart later true same =
        ap (number_by (xs ++ p ∷ []) i) same ∙ sym (ap (λ b. cond b (Some (length (x ∷ xs))) (number_with (x ∷ xs) i)) (not_both x p i apart same (nat_eq p.index i) refl) ∙ ap (number_by xs i) same)
    by_test apart later false other =
        ap (number_by (xs ++ p ∷ []) i) other ∙ ap next later ∙ shift (nat_eq p.index i) (number_with xs i) ∙ ap after (sym (ap (number_by xs i) other))

-- ---- the place with a number

pub record Numbered (places : List TagPlace) (index : ℕ) (k : ℕ) : Type 0 where
  pub p : TagPlace
  pub there : slice_get places k ≡ Some p
  pub stands : home_with places index ≡ Some p.home

pub numbered : (places : List TagPlace) (i k : ℕ) → number_with places i ≡ Some k → Numbered places i k
numbered [] i k is = absurd (none_is_some k is)
numbered (x ∷ xs) i k is = by_test (λ j at. numbered xs i j at) (nat_eq x.index i) refl
  where
    by_rest : ((j : ℕ) → number_with xs i ≡ Some j → Numbered xs i j) → nat_eq x.index i ≡ false → (o : Option ℕ) → number_with xs i ≡ o → option_map (λ k. k + 1) o ≡ Some k → Numbered (x ∷ xs) i k
    by_rest later other None at is = absurd (none_is_some k is)
    by_rest later other (Some j) at is =
        let rest = later j at in
        let behind : suc j ≡ k = omega (arith, same_some (j + 1) k is) in
        record {
          p = rest.p;
          there = subst (λ n. slice_get (x ∷ xs) n ≡ Some rest.p) behind rest.there;
          stands = ap (home_by x xs i) other ∙ rest.stands;
        }

    by_test : ((j : ℕ) → number_with xs i ≡ Some j → Numbered xs i j) → (b : Bool) → nat_eq x.index i ≡ b → Numbered (x ∷ xs) i k
    by_test later true same =
        record {
          p = x;
          there = subst (λ n. slice_get (x ∷ xs) n ≡ Some x) (same_some 0 k (sym (ap (number_by xs i) same) ∙ is)) refl;
          stands = ap (home_by x xs i) same;
        }
    by_test later false other = by_rest later other (number_with xs i) refl (sym (ap (number_by xs i) other) ∙ is)

-- where no place is found, none has the index
pub unnumbered : (places : List TagPlace) (i : ℕ) → number_with places i ≡ None → home_with places i ≡ None
unnumbered [] i is = refl
unnumbered (x ∷ xs) i is = by_test (λ later. unnumbered xs i later) (nat_eq x.index i) refl
  where
    none_of : (o : Option ℕ) → option_map (λ k. k + 1) o ≡ None → o ≡ None
    none_of None is = refl
    none_of (Some j) is = absurd (some_is_none (j + 1) is)

    by_test : (number_with xs i ≡ None → home_with xs i ≡ None) → (b : Bool) → nat_eq x.index i ≡ b → home_with (x ∷ xs) i ≡ None
    by_test later true same = absurd (some_is_none 0 (sym (ap (number_by xs i) same) ∙ is))
    by_test later false other = ap (home_by x xs i) other ∙ later (none_of (number_with xs i) (sym (ap (number_by xs i) other) ∙ is))

pub number_within : (places : List TagPlace) (i k : ℕ) → number_with places i ≡ Some k → k < length places
number_within places i k at = let n = numbered places i k at in slice_get_within places k n.p n.there

-- what is read at the place with a number
pub place_read : (places : List TagPlace) (i k : ℕ) (p : TagPlace) → number_with places i ≡ Some k → p ≡ get_or places k p → home_with places i ≡ Some p.home
place_read places i k p at is =
    let n = numbered places i k at in
    let there = slice_get_read places (length places) k p refl (number_within places i k at) is in
    n.stands ∙ ap (λ (q : TagPlace). Some q.home) (same_some n.p p (sym n.there ∙ there))

-- ---- the last place forgotten, and indexes

pub index_there : (places : List TagPlace) (i : ℕ) → is_some (number_with places i) ≡ true → home_with places i ≡ None → ⊥
index_there places i some none = by_number (number_with places i) refl some
  where
    by_number : (o : Option ℕ) → number_with places i ≡ o → is_some o ≡ true → ⊥
    by_number None is some = true≢false (sym some)
    by_number (Some k) is some = let n = numbered places i k is in some_is_none n.p.home (sym n.stands ∙ none)

pub index_absent : (places : List TagPlace) (i : ℕ) → is_some (number_with places i) ≡ false → home_with places i ≡ None
index_absent places i none = by_number (number_with places i) refl none
  where
    by_number : (o : Option ℕ) → number_with places i ≡ o → is_some o ≡ false → home_with places i ≡ None
    by_number None is none = unnumbered places i is
    by_number (Some k) is none = absurd (true≢false none)

pub number_forgotten : (places : List TagPlace) (p : TagPlace) (i : ℕ) → home_with places p.index ≡ None → cond (nat_eq p.index i) None (number_with (places ++ p ∷ []) i) ≡ number_with places i
number_forgotten places p i unused = ap (λ (o : Option ℕ). cond (nat_eq p.index i) None o) (number_pushed places p i unused) ∙ by_index (nat_eq p.index i) refl
  where
    none_there : (o : Option ℕ) → number_with places i ≡ o → home_with places i ≡ None → None ≡ o
    none_there None is none = refl
    none_there (Some k) is none = let n = numbered places i k is in absurd (some_is_none n.p.home (sym n.stands ∙ none))

    by_index : (b : Bool) → nat_eq p.index i ≡ b → cond b None (cond b (Some (length places)) (number_with places i)) ≡ number_with places i
    by_index true same = none_there (number_with places i) refl (subst (λ (n : ℕ). home_with places n ≡ None) (eqb-true p.index i same) unused)
    by_index false other = refl
