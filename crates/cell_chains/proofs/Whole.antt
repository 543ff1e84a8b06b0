-- The cells of a chain are those of a list, where the chain cannot go on behind its last one.
use Rattle.std.proofs.Common.{◌≡◌, ◌∙◌, ◌⊎◌, inl, inr, List, [], ◌∷◌, ◌++◌, length, true, Some, Contains, refl, sym, ap, subst, arith, append_assoc, length-append}
use Rattle.metadata_cells.specs.domain_base.declared.place.CellAt.{CellAt}
use Rattle.metadata_cells.specs.Chain.{may_follow}
use Rattle.cell_chains.specs.Chains.{EndsAt, Follows, IsListed, ListsChain, begins, goes_on}
use Rattle.cell_chains.specs.Links.{HasLink}
use Rattle.cell_chains.specs.declared.links.CellLink.{CellLink}
use Rattle.cell_chains.specs.declared.links.CellLinks.{CellLinks}

some_same : {X : Type 0} (a b : X) → Some a ≡ Some b → a ≡ b
some_same a b e = cc

cons_same : (x y : CellAt) (xs ys : List CellAt) → x ∷ xs ≡ y ∷ ys → (x ≡ y) × (xs ≡ ys)
cons_same x y xs ys e = (cc, cc)

-- lists that end with one more are alike in both parts
pub end_same : (xs ys : List CellAt) (x y : CellAt) → xs ++ x ∷ [] ≡ ys ++ y ∷ [] → (xs ≡ ys) × (x ≡ y)
end_same [] [] x y e = (refl, (cons_same x y [] [] e).0)
end_same [] (b ∷ bs) x y e = absurd (omega (arith, ap length e, length-append bs (y ∷ [])))
end_same (a ∷ as') [] x y e = absurd (omega (arith, ap length e, length-append as' (x ∷ [])))
end_same (a ∷ as') (b ∷ bs) x y e =
    let parts = cons_same a b (as' ++ x ∷ []) (bs ++ y ∷ []) e in
    let more = end_same as' bs x y parts.1 in ((λ i. parts.0 i ∷ more.0 i), more.1)

-- a part of a list with one more behind it ends with that one, or is a part of the list
cut_end : (xs ys : List CellAt) (x y : CellAt) (rest : List CellAt) → xs ++ x ∷ [] ≡ ys ++ y ∷ rest
    → ((xs ≡ ys) × (x ≡ y)) ⊎ ((more : List CellAt) × (xs ≡ ys ++ y ∷ more))
cut_end [] [] x y rest e = inl (refl, (cons_same x y [] rest e).0)
cut_end [] (b ∷ bs) x y rest e = absurd (omega (arith, ap length e, length-append bs (y ∷ rest)))
cut_end (a ∷ as') [] x y rest e = let parts = cons_same a y (as' ++ x ∷ []) rest e in inr (as', (λ i. parts.0 i ∷ as'))
cut_end (a ∷ as') (b ∷ bs) x y rest e =
    let parts = cons_same a b (as' ++ x ∷ []) (bs ++ y ∷ rest) e in
    elim (cut_end as' bs x y rest parts.1) [
      | inl ends ↦ inl ((λ i. parts.0 i ∷ ends.0 i), ends.1)
      | inr cut ↦ inr (cut.0, (λ i. parts.0 i ∷ cut.1 i))
    ]

module _ (links : CellLinks) (start : CellAt) where
  -- a cell leads to one cell
  pub one_link : (at : CellAt) (one other : CellLink) → HasLink links at one → HasLink links at other → one ≡ other
  one_link at one other there also = let pair : CellAt × CellLink → CellLink = λ p. p.1 in ap pair (some_same {X = CellAt × CellLink} (at, one) (at, other) (sym there ∙ also))

  -- a cell that is come to is in use
  pub has_link : (passed : List CellAt) (at : CellAt) (link : CellLink) → Follows links start passed at link → HasLink links at link
  has_link passed at link follows = elim follows as (λ passed at link follows. HasLink links at link) [
    | begins link there ↦ there
    | goes_on passed at onto link next (before → earlier) leads fresh there may ↦ there
  ]

  -- what is in front of a cell that was come to was come to
  cut : (passed : List CellAt) (at : CellAt) (link : CellLink) → Follows links start passed at link → (ys : List CellAt) (y : CellAt) (rest : List CellAt) → passed ++ at ∷ [] ≡ ys ++ y ∷ rest
      → (one : CellLink) × Follows links start ys y one
  cut passed at link follows = elim follows as (λ passed at link follows. (ys : List CellAt) (y : CellAt) (rest : List CellAt) → passed ++ at ∷ [] ≡ ys ++ y ∷ rest → (one : CellLink) × Follows links start ys y one) [
    | begins link there ↦ λ ys y rest e. elim (cut_end [] ys start y rest e) [
      | inl ends ↦ (link, subst (λ l. Follows links start l y link) ends.0 (subst (λ a. Follows links start [] a link) ends.1 (begins link there)))
      | inr more ↦ absurd (omega (arith, ap length more.1, length-append ys (y ∷ more.0)))
    ]
    | goes_on passed at onto link next (before → earlier) leads fresh there may ↦ λ ys y rest e. elim (cut_end (passed ++ at ∷ []) ys onto y rest e) [
      | inl ends ↦ (next, subst (λ l. Follows links start l y next) ends.0 (subst (λ a. Follows links start (passed ++ at ∷ []) a next) ends.1 (goes_on passed at onto link next before leads fresh there may)))
      | inr more ↦ earlier ys y more.0 more.1
    ]
  ]

  -- the cell in front of one that was come to leads there
  in_front : (passed : List CellAt) (at : CellAt) (link : CellLink) → Follows links start passed at link → (ys : List CellAt) (y : CellAt) → passed ≡ ys ++ y ∷ []
      → (one : CellLink) × (HasLink links y one × (one.next ≡ Some at))
  in_front passed at link follows = elim follows as (λ passed at link follows. (ys : List CellAt) (y : CellAt) → passed ≡ ys ++ y ∷ [] → (one : CellLink) × (HasLink links y one × (one.next ≡ Some at))) [
    | begins link there ↦ λ ys y e. absurd (omega (arith, ap length e, length-append ys (y ∷ [])))
    | goes_on passed at onto link next (before → earlier) leads fresh there may ↦ λ ys y e.
        let same = end_same passed ys at y e in (link, (subst (λ a. HasLink links a link) same.1 (has_link passed at link before), leads))
  ]

  module _ (cells passed : List CellAt) (last : CellAt) (link : CellLink) (are : cells ≡ passed ++ last ∷ []) (follows : Follows links start passed last link) (ends : EndsAt links passed last link) where
    first_listed : (p : List CellAt) (l : CellAt) → p ++ l ∷ [] ≡ passed ++ last ∷ [] → (k : CellLink) → Follows links start p l k → IsListed cells [] start
    first_listed p l e k there = elim there as (λ p l k there. p ++ l ∷ [] ≡ passed ++ last ∷ [] → IsListed cells [] start) [
      | begins k has ↦ λ e. ([], are ∙ sym e)
      | goes_on p a onto k next (before → earlier) leads fresh has may ↦ λ e. by_list p a onto (are ∙ sym e) (starts p a k before)
    ] e
      where
        starts : (p : List CellAt) (a : CellAt) (k : CellLink) → Follows links start p a k → (more : List CellAt) × (p ++ a ∷ [] ≡ start ∷ more)
        starts p a k there = elim there as (λ p a k there. (more : List CellAt) × (p ++ a ∷ [] ≡ start ∷ more)) [
          | begins k has ↦ ([], refl)
          | goes_on p a onto k next (before → earlier) leads fresh has may ↦ (earlier.0 ++ onto ∷ [], ap (λ l. l ++ onto ∷ []) earlier.1)
        ]

        by_list : (p : List CellAt) (a onto : CellAt) → cells ≡ (p ++ a ∷ []) ++ onto ∷ [] → ((more : List CellAt) × (p ++ a ∷ [] ≡ start ∷ more)) → IsListed cells [] start
        by_list p a onto is (more, begins_so) = (more ++ onto ∷ [], is ∙ ap (λ l. l ++ onto ∷ []) begins_so)

    next_listed : (p : List CellAt) (at onto : CellAt) (k next : CellLink) → HasLink links at k → k.next ≡ Some onto → ¬ Contains (p ++ at ∷ []) onto → HasLink links onto next → may_follow k.kind next.kind ≡ true
        → IsListed cells p at → IsListed cells (p ++ at ∷ []) onto
    next_listed p at onto k next has leads fresh there may ([], is) =
        let same = end_same passed p last at (sym are ∙ is) in
        let one : k ≡ link = one_link last k link (subst (λ a. HasLink links a k) (sym same.1) has) (has_link passed last link follows) in
        absurd (ends onto next (subst (λ (l : CellLink). l.next ≡ Some onto) one leads)
        (subst (λ l. ¬ Contains l onto) (λ i. sym same.0 i ++ sym same.1 i ∷ []) fresh) there (subst (λ (l : CellLink). may_follow l.kind next.kind ≡ true) one may))
    next_listed p at onto k next has leads fresh there may (z ∷ rest, is) =
        let whole : cells ≡ (p ++ at ∷ []) ++ z ∷ rest = is ∙ sym (append_assoc p (at ∷ []) (z ∷ rest)) in
        let come = cut passed last link follows (p ++ at ∷ []) z rest (sym are ∙ whole) in
        let front = in_front (p ++ at ∷ []) z come.0 come.1 p at refl in
        let one : front.0 ≡ k = one_link at front.0 k front.1.0 has in
        let same : z ≡ onto = some_same z onto (sym front.1.1 ∙ ap (λ (l : CellLink). l.next) one ∙ leads) in
        (rest, whole ∙ ap (λ a. (p ++ at ∷ []) ++ a ∷ rest) same)

    listed : (p : List CellAt) (at : CellAt) (k : CellLink) → Follows links start p at k → IsListed cells p at
    listed p at k there = elim there as (λ p at k there. IsListed cells p at) [
      | begins k has ↦ first_listed passed last refl link follows
      | goes_on p at onto k next (before → earlier) leads fresh has may ↦ next_listed p at onto k next (has_link p at k before) leads fresh has may earlier
    ]

    pub lists_chain : ListsChain links start cells
    lists_chain p at = ((λ there. listed p at there.0 there.1), (λ is. cut passed last link follows p at is.0 (sym are ∙ is.1)))

-- no cell is in use at the start
pub no_chain : (links : CellLinks) (start : CellAt) → ((link : CellLink) → ¬ HasLink links start link) → ListsChain links start []
no_chain links start none p at = ((λ there. absurd (nothing p at there.0 there.1)), (λ is. absurd (omega (arith, ap length is.1, length-append p (at ∷ is.0)))))
  where
    nothing : (p : List CellAt) (at : CellAt) (k : CellLink) → Follows links start p at k → ⊥
    nothing p at k there = elim there as (λ p at k there. ⊥) [
      | begins k has ↦ none k has
      | goes_on p at onto k next (before → earlier) leads fresh has may ↦ earlier
    ]
