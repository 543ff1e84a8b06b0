-- Pages of cells put on a list, table by table.
use Rattle.std.proofs.Common.{◌≡◌, ◌∙◌, ◌⊎◌, ◌↔◌, inl, inr, ℕ, ◌+◌, ◌<◌, List, [], ◌∷◌, ◌++◌, Some, Contains, slice_get, sym, ap, subst, arith, ⊎_elim}
use Rattle.std.proofs.lemmas.Bool.{cases_lt}
use Rattle.std.proofs.lemmas.List.Elements.{Contains-append_left, Contains-push, Contains-push_cases}
use Rattle.page_ways.specs.domain_base.declared.place.Home.{Home}
use Rattle.cell_faults.specs.declared.tables.CellsPage.{CellsPage}

some_same : {X : Type 0} (a b : X) → Some a ≡ Some b → a ≡ b
some_same a b e = cc

-- of the homes, those at places below a number are on the list behind what was there
abbrev pub ArePushed : List CellsPage → List Home → ℕ → List CellsPage → Type 0
ArePushed old homes number new = (page : CellsPage) → Contains new page
    ↔ (Contains old page ⊎ ((page.place < number) × (slice_get homes page.place ≡ Some page.home)))

pub push_one : (old new : List CellsPage) (homes : List Home) (place : ℕ) (home : Home) → ArePushed old homes place new → slice_get homes place ≡ Some home
    → ArePushed old homes (place + 1) (new ++ record { home = home; place = place } ∷ [])
push_one old new homes place home are there page = (to, from)
  where
    one : CellsPage
    one = record { home = home; place = place }

    to : Contains (new ++ one ∷ []) page → Contains old page ⊎ ((page.place < place + 1) × (slice_get homes page.place ≡ Some page.home))
    to is =
        ⊎_elim (λ front. ⊎_elim (λ before. inl before) (λ put. inr (omega (arith, put.0), put.1)) ((are page).0 front))
        (λ last.
        inr (subst (λ (p : CellsPage). (p.place < place + 1) × (slice_get homes p.place ≡ Some p.home)) last (omega arith, there)))
        (Contains-push_cases new one page is)

    from : Contains old page ⊎ ((page.place < place + 1) × (slice_get homes page.place ≡ Some page.home)) → Contains (new ++ one ∷ []) page
    from is =
        ⊎_elim (λ before. Contains-append_left new (one ∷ []) page ((are page).1 (inl before)))
        (λ put. ⊎_elim (λ low. Contains-append_left new (one ∷ []) page ((are page).1 (inr (low, put.1))))
        (λ high.
        let at : place ≡ page.place = omega (arith, high, put.0) in
        let same : home ≡ page.home = some_same home page.home (sym there ∙ ap (slice_get homes) at ∙ put.1) in
        let is_one : one ≡ page = λ i. record { home = same i; place = at i } in
        subst (Contains (new ++ one ∷ [])) is_one (Contains-push new one))
        (cases_lt page.place place)) is
