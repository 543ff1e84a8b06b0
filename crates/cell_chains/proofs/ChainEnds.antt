-- A chain that ends at a cell which leads to some other one.
use Rattle.std.proofs.Common.{◌≡◌, ◌∙◌, ℕ, suc, ◌-◌, List, [], ◌∷◌, ◌++◌, length, slice_get, true, Some, None, Contains, refl, sym, ap, subst, arith, append_assoc, length-append}
use Rattle.metadata_cells.specs.domain_base.declared.place.CellAt.{CellAt}
use Rattle.metadata_cells.specs.Chain.{may_follow}
use Rattle.cell_chains.specs.Chains.{Follows, IsListed, ListsChain, begins, goes_on}
use Rattle.cell_chains.specs.Links.{HasLink}
use Rattle.cell_chains.specs.declared.links.CellLink.{CellLink}
use Rattle.cell_chains.specs.declared.links.CellLinks.{CellLinks}
use Rattle.cell_chains.proofs.Whole.{end_same, has_link, one_link}
use Rattle.cell_chains.specs.Leads.{EndsAstray}

some_same : {X : Type 0} (a b : X) → Some a ≡ Some b → a ≡ b
some_same a b e = cc

before_last : (n : ℕ) → suc (suc n) - 1 ≡ suc (suc n - 1)
before_last n = omega arith

-- the last cell of a list with the cells in front of it
pub last_of : (cells : List CellAt) (at : CellAt) → Some at ≡ slice_get cells (length cells - 1) → (passed : List CellAt) × (cells ≡ passed ++ at ∷ [])
last_of [] at is = absurd (let e : Some at ≡ None = is in cc)
last_of (x ∷ []) at is = ([], ap (λ y. y ∷ []) (sym (some_same at x is)))
last_of (x ∷ y ∷ rest) at is =
    let more = last_of (y ∷ rest) at (subst (λ k. Some at ≡ slice_get (x ∷ y ∷ rest) k) (before_last (length rest)) is) in (x ∷ more.0, ap (λ l. x ∷ l) more.1)

pub none_last : (cells : List CellAt) → None ≡ slice_get cells (length cells - 1) → cells ≡ []
none_last [] is = refl
none_last (x ∷ []) is = absurd (let e : None ≡ Some x = is in cc)
none_last (x ∷ y ∷ rest) is = absurd (none_more (none_last (y ∷ rest) (subst (λ k. None ≡ slice_get (x ∷ y ∷ rest) k) (before_last (length rest)) is)))
  where
    none_more : y ∷ rest ≡ [] → ⊥
    none_more e = omega (arith, ap length e)

module _ (links : CellLinks) (start : CellAt) where
  -- the cell in front of one that was come to goes on to it
  abbrev CameFrom : CellAt → List CellAt → CellAt → CellLink → Type 0
  CameFrom y passed at link = (one : CellLink) × HasLink links y one × (one.next ≡ Some at) × (¬ Contains passed at) × HasLink links at link × (may_follow one.kind link.kind ≡ true)

  came : (passed : List CellAt) (at : CellAt) (link : CellLink) → Follows links start passed at link → (ys : List CellAt) (y : CellAt) → passed ≡ ys ++ y ∷ [] → CameFrom y passed at link
  came passed at link follows = elim follows as (λ passed at link follows. (ys : List CellAt) (y : CellAt) → passed ≡ ys ++ y ∷ [] → CameFrom y passed at link) [
    | begins link there ↦ λ ys y e. absurd (omega (arith, ap length e, length-append ys (y ∷ [])))
    | goes_on passed at onto link next (before → earlier) leads fresh there may ↦ λ ys y e.
        let same = end_same passed ys at y e in
        (link, subst (λ a. HasLink links a link) same.1 (has_link links start passed at link before), leads, fresh, there, may)
  ]

  module _ (cells : List CellAt) (lists : ListsChain links start cells) where
    -- a chain ends at its last cell
    pub ends_astray : (at : CellAt) → Some at ≡ slice_get cells (length cells - 1) → (link : CellLink) (onto : CellAt) → HasLink links at link → link.next ≡ Some onto → EndsAstray links start at
    ends_astray at is link onto has leads =
        let parts = last_of cells at is in
        let there = (lists parts.0 at).1 ([], parts.1) in
        let same : there.0 ≡ link = one_link links start at there.0 link (has_link links start parts.0 at there.0 there.1) has in
        let follows = subst (Follows links start parts.0 at) same there.1 in (
          parts.0,
          link,
          follows,
          onto,
          leads,
          λ next_at next leads fresh in_use may.
              let further = (lists (parts.0 ++ at ∷ []) next_at).0 (next, goes_on parts.0 at next_at link next follows leads fresh in_use may) in
              omega (arith, ap length (sym parts.1 ∙ further.1), length-append (parts.0 ++ at ∷ []) (next_at ∷ further.0)),
        )

    -- and at no other one
    pub last_alone : (at : CellAt) → EndsAstray links start at → (Some at ≡ slice_get cells (length cells - 1)) × ((link : CellLink) × (onto : CellAt) × HasLink links at link × (link.next ≡ Some onto))
    last_alone at (passed, link, follows, onto, leads, ends) =
        let has = has_link links start passed at link follows in
        (by_rest ((lists passed at).0 (link, follows)), (link, onto, has, leads))
      where
        at_end : (front : List CellAt) → Some at ≡ slice_get (front ++ at ∷ []) (length (front ++ at ∷ []) - 1)
        at_end [] = refl
        at_end (x ∷ []) = refl
        at_end (x ∷ y ∷ rest) = subst (λ k. Some at ≡ slice_get ((x ∷ y ∷ rest) ++ at ∷ []) k) (sym (before_last (length (rest ++ at ∷ [])))) (at_end (y ∷ rest))

        by_rest : IsListed cells passed at → Some at ≡ slice_get cells (length cells - 1)
        by_rest ([], is) = subst (λ l. Some at ≡ slice_get l (length l - 1)) (sym is) (at_end passed)
        by_rest (z ∷ rest, is) =
            let whole : cells ≡ (passed ++ at ∷ []) ++ z ∷ rest = is ∙ sym (append_assoc passed (at ∷ []) (z ∷ rest)) in
            let next = (lists (passed ++ at ∷ []) z).1 (rest, whole) in
            let (one, has, goes, fresh, there, may) = came (passed ++ at ∷ []) z next.0 next.1 passed at refl in
            let same : one ≡ link = one_link links start at one link has (has_link links start passed at link follows) in
            absurd (ends z next.0 (subst (λ (l : CellLink). l.next ≡ Some z) same goes) fresh there (subst (λ (l : CellLink). may_follow l.kind next.0.kind ≡ true) same may))
