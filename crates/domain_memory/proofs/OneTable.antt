-- A volume has one table of cells.
use Rattle.std.proofs.Common.{◌≡◌, ◌∙◌, ℕ, zero, suc, ◌+◌, ◌<◌, ◌≤◌, List, [], ◌∷◌, length, Option, Some, None, IsSomeAnd, slice_get, slice_index, refl, sym, subst, arith, ⊎_elim}
use Rattle.std.proofs.lemmas.Bool.{cases_lt}
use Rattle.std.proofs.lemmas.List.{ext_get_or}
use Rattle.standing_laws.specs.page_store.Pages.{Pages}
use Rattle.standing_laws.specs.domain_layout.Layout.{IsCellTable, IsPageAt}
use Rattle.standing_laws.proofs.OfDomainLayout.OnePage.{some_same}

some_two : {X : Type 0} (P Q : X → Type 0) (R : Type 0) → ((x : X) → P x → Q x → R) → (o : Option X) → IsSomeAnd o P → IsSomeAnd o Q → R
some_two P Q R by None one two = absurd one
some_two P Q R by (Some x) one two = by x one two

past_end : (xs : List ℕ) (k : ℕ) → length xs ≤ k → slice_index xs k ≡ 0
past_end [] k far = refl
past_end (x ∷ xs) zero far = absurd (omega (arith, far))
past_end (x ∷ xs) (suc k) far = past_end xs k (omega (arith, far))

-- two lists have the same at a place
abbrev Same : List ℕ → List ℕ → ℕ → Type 0
Same a b k = (k < length b) × (slice_index a k ≡ slice_index b k)

first_same : (a b : List ℕ) (first : ℕ) → slice_get a 0 ≡ Some first → slice_get b 0 ≡ Some first → Same a b 0
first_same [] b first is also = let e : None ≡ Some first = is in absurd (cc)
first_same (x ∷ a) [] first is also = let e : None ≡ Some first = also in absurd (cc)
first_same (x ∷ a) (y ∷ b) first is also = (omega arith, some_same x first is ∙ sym (some_same y first also))

module _ (pages : Pages) (vol first : ℕ) where
  next_same : (a b : List ℕ) (k : ℕ) → IsCellTable pages vol first a → IsCellTable pages vol first b → k + 1 < length a → Same a b k → Same a b (k + 1)
  next_same a b k of_a of_b more (within, same) =
      let next : slice_index a (k + 1) ≡ slice_index b (k + 1) =
      some_two (IsPageAt a k) (IsPageAt b k) (slice_index a (k + 1) ≡ slice_index b (k + 1)) (λ page one two. sym one.linked ∙ two.linked)
      (pages (record { vol = vol; page = slice_index b k }))
      (subst (λ (p : ℕ). IsSomeAnd (pages (record { vol = vol; page = p })) (IsPageAt a k)) same (of_a.each k (omega (arith, more)))) (of_b.each k within) in
      (⊎_elim (λ less. less) (λ far. absurd (of_a.some (k + 1) more (next ∙ past_end b (k + 1) far))) (cases_lt (k + 1) (length b)), next)

  same_at : (a b : List ℕ) → IsCellTable pages vol first a → IsCellTable pages vol first b → (k : ℕ) → k < length a → Same a b k
  same_at a b of_a of_b zero within = first_same a b first of_a.begins of_b.begins
  same_at a b of_a of_b (suc k) within =
      let on : k + 1 ≡ suc k = omega arith in
      subst (Same a b) on (next_same a b k of_a of_b (omega (arith, within)) (same_at a b of_a of_b k (omega (arith, within))))

  no_longer : (a b : List ℕ) → IsCellTable pages vol first a → IsCellTable pages vol first b → length a ≤ length b
  no_longer a b of_a of_b =
      ⊎_elim (λ less. let same = same_at a b of_a of_b (length b) less in omega (arith, same.0)) (λ not_more. not_more) (cases_lt (length b) (length a))

  pub one_table : (a b : List ℕ) → IsCellTable pages vol first a → IsCellTable pages vol first b → a ≡ b
  one_table a b of_a of_b =
      let one = no_longer a b of_a of_b in
      let other = no_longer b a of_b of_a in
      ext_get_or 0 a b (omega (arith, one, other)) (λ k within. (same_at a b of_a of_b k within).1)
