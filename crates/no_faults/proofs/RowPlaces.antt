-- Rows of the pages of a directory, in which no name stands twice.
use Rattle.std.proofs.Common.{◌≡◌, ◌∙◌, ◌⊎◌, inl, inr, ℕ, zero, suc, ◌+◌, ◌<◌, List, [], ◌∷◌, ◌++◌, length, Some, slice_get, sym, ap, subst, arith, ⊎_elim}
use Rattle.std.proofs.lemmas.Bool.{cases_order, true≢false}
use Rattle.domain_memory.specs.directory_pages.RowPage.{rows_of}
use Rattle.domain_memory.specs.directory_pages.declared.row.Row.{Row}
use Rattle.domain_memory.specs.directory_rows.Directory.{NamesOnce, all_rows}
use Rattle.domain_memory.proofs.OfDomainLayout.OnePage.{some_same}
use Rattle.domain_memory.proofs.OfFilesetsReading.Ways.{within_of}
use Rattle.domain_memory.proofs.OfDirectoryRows.AllLed.{get_front, named_at}
use Rattle.no_faults.proofs.Ways.{nothing}

-- the place of a row among those of all pages
abbrev pub place_in : List (List ℕ) → ℕ → ℕ → ℕ
place_in [] k j = j
place_in (page ∷ pages) zero j = j
place_in (page ∷ pages) (suc k) j = length (rows_of page) + place_in pages k j

behind : {X : Type 0} (xs ys : List X) (k : ℕ) → slice_get (xs ++ ys) (length xs + k) ≡ slice_get ys k
behind [] ys k = let e : 0 + k ≡ k = omega arith in ap (slice_get ys) e
behind (x ∷ xs) ys k = let e : suc (length xs) + k ≡ suc (length xs + k) = omega arith in ap (slice_get (x ∷ (xs ++ ys))) e ∙ behind xs ys k

module _ (bytes : List ℕ) (j : ℕ) (row : Row) (at : slice_get (rows_of bytes) j ≡ Some row) where
  pub in_place : (pages : List (List ℕ)) (k : ℕ) → slice_get pages k ≡ Some bytes → slice_get (all_rows pages) (place_in pages k j) ≡ Some row
  in_place [] k is = nothing bytes is
  in_place (page ∷ pages) zero is = get_front (rows_of page) (all_rows pages) j row (subst (λ b. slice_get (rows_of b) j ≡ Some row) (sym (some_same page bytes is)) at)
  in_place (page ∷ pages) (suc k) is = behind (rows_of page) (all_rows pages) (place_in pages k j) ∙ in_place pages k is

in_order : (pages : List (List ℕ)) (k k' : ℕ) (bytes bytes' : List ℕ) (j j' : ℕ) (a b : Row) → slice_get pages k ≡ Some bytes → slice_get pages k' ≡ Some bytes' → slice_get (rows_of bytes) j ≡ Some a → slice_get (rows_of bytes') j' ≡ Some b
    → (k < k') ⊎ ((k ≡ k') × (j < j')) → place_in pages k j < place_in pages k' j'
in_order [] k k' bytes bytes' j j' a b is is' at at' order = nothing bytes is
in_order (page ∷ pages) zero zero bytes bytes' j j' a b is is' at at' order = ⊎_elim (λ less. absurd (omega (arith, less))) (λ same. same.1) order
in_order (page ∷ pages) zero (suc k') bytes bytes' j j' a b is is' at at' order =
    let low = within_of (rows_of page) j a (subst (λ p. slice_get (rows_of p) j ≡ Some a) (sym (some_same page bytes is)) at) in omega (arith, low)
in_order (page ∷ pages) (suc k) zero bytes bytes' j j' a b is is' at at' order = absurd (⊎_elim (λ less. omega (arith, less)) (λ same. omega (arith, same.0)) order)
in_order (page ∷ pages) (suc k) (suc k') bytes bytes' j j' a b is is' at at' order =
    let less = in_order pages k k' bytes bytes' j j' a b is is' at at' (⊎_elim (λ less. inl (omega (arith, less))) (λ same. inr (omega (arith, same.0), same.1)) order) in omega (arith, less)

once_pair : (rows : List Row) → NamesOnce rows → (i j : ℕ) (a b : Row) → i < j → slice_get rows i ≡ Some a → slice_get rows j ≡ Some b → ¬ a.name ≡ b.name
once_pair [] once i j a b less at at' same = nothing a at
once_pair (r ∷ rows) once i zero a b less at at' same = omega (arith, less)
once_pair (r ∷ rows) once zero (suc j) a b less at at' same =
    true≢false (sym (named_at r.name rows j b at' (sym (ap (λ (x : Row). x.name) (some_same r a at) ∙ same))) ∙ once.0)
once_pair (r ∷ rows) once (suc i) (suc j) a b less at at' same = once_pair rows once.1 i j a b (omega (arith, less)) at at' same

module _ (pages : List (List ℕ)) (once : NamesOnce (all_rows pages)) where
  -- a row has no name of one in front of it
  pub names_apart : (k k' : ℕ) (bytes bytes' : List ℕ) (j j' : ℕ) (a b : Row) → slice_get pages k ≡ Some bytes → slice_get pages k' ≡ Some bytes' → slice_get (rows_of bytes) j ≡ Some a → slice_get (rows_of bytes') j' ≡ Some b
      → (k < k') ⊎ ((k ≡ k') × (j < j')) → ¬ a.name ≡ b.name
  names_apart k k' bytes bytes' j j' a b is is' at at' order =
      once_pair (all_rows pages) once (place_in pages k j) (place_in pages k' j') a b (in_order pages k k' bytes bytes' j j' a b is is' at at' order) (in_place bytes j a at pages k is) (in_place bytes' j' b at' pages k' is')

  -- so two of one name stand at one place
  pub one_place : (k k' : ℕ) (bytes bytes' : List ℕ) (j j' : ℕ) (a b : Row) → slice_get pages k ≡ Some bytes → slice_get pages k' ≡ Some bytes' → slice_get (rows_of bytes) j ≡ Some a → slice_get (rows_of bytes') j' ≡ Some b
      → a.name ≡ b.name → (k ≡ k') × (j ≡ j')
  one_place k k' bytes bytes' j j' a b is is' at at' same =
      ⊎_elim (λ page. ⊎_elim (λ place. (page, place))
      (λ apart. ⊎_elim (λ less. absurd (before k k' bytes bytes' j j' a b is is' at at' (inr (page, less)) same)) (λ more. absurd (before k' k bytes' bytes j' j b a is' is at' at (inr (sym page, more)) (sym same))) apart) (cases_order j j'))
      (λ apart. ⊎_elim (λ less. absurd (before k k' bytes bytes' j j' a b is is' at at' (inl less) same)) (λ more. absurd (before k' k bytes' bytes j' j b a is' is at' at (inl more) (sym same))) apart) (cases_order k k')
    where
      before : (k k' : ℕ) (bytes bytes' : List ℕ) (j j' : ℕ) (a b : Row) → slice_get pages k ≡ Some bytes → slice_get pages k' ≡ Some bytes' → slice_get (rows_of bytes) j ≡ Some a → slice_get (rows_of bytes') j' ≡ Some b
          → (k < k') ⊎ ((k ≡ k') × (j < j')) → ¬ a.name ≡ b.name
      before = names_apart
