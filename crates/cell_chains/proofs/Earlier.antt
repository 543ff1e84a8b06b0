-- Cells that go on to one to which an earlier cell of another chain goes on.
use Rattle.std.proofs.Common.{◌≡◌, ◌∙◌, ◌⊎◌, ◌↔◌, inl, inr, ℕ, ◌+◌, ◌<◌, ◌≤◌, ◌==◌, true, false, get_or, length, Some, None, if◌then◌else◌, eqb-true, refl, sym, ap, subst, arith, ⊎_elim}
use Rattle.std.proofs.lemmas.Bool.{cases_lt}
use Rattle.metadata_cells.specs.domain_base.declared.place.CellAt.{CellAt}
use Rattle.metadata_cells.specs.domain_base.declared.place.Home.{Home}
use Rattle.metadata_cells.specs.CellPage.{home_of}
use Rattle.metadata_cells.specs.Chain.{key_of}
use Rattle.metadata_cells.specs.sorted_sets.Rising.{value_at}
use Rattle.metadata_cells.proofs.OfSortedSets.Search.{value-present}
use Rattle.metadata_cells.proofs.OfSortedSets.Placed.{placed}
use Rattle.cell_chains.specs.Links.{HasLink, cells_of}
use Rattle.cell_chains.specs.declared.links.CellLink.{CellLink}
use Rattle.cell_chains.specs.declared.links.CellLinks.{CellLinks}
use Rattle.cell_chains.specs.declared.set.CellSet.{CellSet}
use Rattle.cell_chains.specs.Heads.{IsStartOf}
use Rattle.cell_chains.specs.Late.{GoesLate, JoinsLead}
use Rattle.cell_chains.specs.Leads.{GoesTo, HasLate, IsLate}
use Rattle.cell_chains.specs.Starts.{Tells, joined, starts_of, told_in}
use Rattle.cell_chains.specs.declared.map.StartMap.{StartMap}
use Rattle.cell_chains.specs.declared.starts.Starts.{Starts}
use Rattle.cell_chains.proofs.Cells.{apart_of, one_key}
use Rattle.cell_chains.proofs.Each.{Entry, SomeBelow, below_more, none_below}
use Rattle.cell_chains.proofs.Told.{differ_from, differ_to, tells_joined, tells_same, told_some}

some_same : {X : Type 0} (a b : X) → Some a ≡ Some b → a ≡ b
some_same a b e = cc

-- ---- the order of cells in use

module _ (links : CellLinks) where
  -- what stands at a place is in use, under its number
  pub in_use : (entry : Entry) (k : ℕ) → k < length (cells_of links) → get_or (cells_of links) k entry ≡ entry → (entry.0 ≡ key_of entry.1.0) × HasLink links entry.1.0 entry.1.1
  in_use entry k within at =
      let there : value_at (cells_of links) entry.0 ≡ Some entry.1 =
      value-present (cells_of links) links.rising entry.0 k entry within (ap (λ (e : Entry). e.0) at) ∙ ap (λ (e : Entry). Some e.1) at in
      let key = (links.numbered entry.0 entry.1.0 entry.1.1 there).0 in
      (key, subst (λ n. value_at (cells_of links) n ≡ Some entry.1) key there)

  -- of two places the further one has the greater number
  pub key_less : (a b : Entry) (i j : ℕ) → i < j → j < length (cells_of links) → get_or (cells_of links) i a ≡ a → ((d : Entry) → get_or (cells_of links) j d ≡ b) → a.0 < b.0
  key_less a b i j less within at_i at_j =
      let rises = links.rising i j a less within in
      let first : (get_or (cells_of links) i a).0 ≡ a.0 = ap (λ (e : Entry). e.0) at_i in
      let next : (get_or (cells_of links) j a).0 ≡ b.0 = ap (λ (e : Entry). e.0) (at_j a) in
      omega (arith, rises, first, next)

  module _ (Is : CellAt → CellLink → Type 0) (number : ℕ) (entry : Entry) (within : number < length (cells_of links)) (item : (d : Entry) → get_or (cells_of links) number d ≡ entry) where
    pub was_earlier : SomeBelow (cells_of links) Is number → (other : CellAt) × (link : CellLink) × HasLink links other link × Is other link × (key_of other < key_of entry.1.0)
    was_earlier (e, (k, below, at), is) =
        let there = in_use e k (omega (arith, below, within)) at in
        let here = in_use entry number within (item entry) in
        let less = key_less e entry k number below within at item in
        (e.1.0, e.1.1, there.1, is, omega (arith, there.0, here.0, less))

    pub is_earlier : (other : CellAt) (link : CellLink) → HasLink links other link → Is other link → key_of other < key_of entry.1.0 → SomeBelow (cells_of links) Is number
    is_earlier other link has is less =
        let there = placed (cells_of links) (key_of other) (other, link) has in
        let here = in_use entry number within (item entry) in
        let one : Entry = (key_of other, (other, link)) in
        (one, (there.0, ⊎_elim (λ below. below) (λ high. absurd (not_behind one there.0 there.1 there.2 high (omega (arith, less, here.0)))) (cases_lt there.0 number), there.2), is)
      where
        not_behind : (one : Entry) (k : ℕ) → k < length (cells_of links) → get_or (cells_of links) k one ≡ one → number ≤ k → one.0 < entry.0 → ⊥
        not_behind one k inside at high less =
            ⊎_elim
            (λ further. let rises = links.rising number k one further inside in
            let first : (get_or (cells_of links) number one).0 ≡ entry.0 = ap (λ (e : Entry). e.0) (item one) in
            let next : (get_or (cells_of links) k one).0 ≡ one.0 = ap (λ (e : Entry). e.0) at in
            omega (arith, rises, first, next, less))
            (λ near. let here : k ≡ number = omega (arith, near, high) in
            let alike : one ≡ entry = sym at ∙ subst (λ n. get_or (cells_of links) n one ≡ entry) (sym here) (item one) in
            let keys : one.0 ≡ entry.0 = ap (λ (e : Entry). e.0) alike in
            omega (arith, keys, less))
            (cases_lt number k)

  -- ---- cells that were looked at

  module _ (led : CellSet) where
    -- a cell of a chain goes on to another one
    abbrev pub GoesFrom : CellAt → CellAt → CellAt → CellLink → Type 0
    GoesFrom onto chain other link = GoesTo links link onto × IsStartOf links led other chain

    abbrev pub GoesBelow : ℕ → CellAt → CellAt → Type 0
    GoesBelow number onto chain = SomeBelow (cells_of links) (GoesFrom onto chain) number

    -- of each cell in use the chains are told of which a cell at a place below a number goes on to it
    abbrev pub AreEarlier : StartMap → ℕ → Type 0
    AreEarlier earlier number = (onto : CellAt) (link : CellLink) → HasLink links onto link → Tells (starts_of earlier onto) (GoesBelow number onto)

    pub no_earlier : (earlier : StartMap) → ((key : ℕ) → told_in earlier key ≡ None) → AreEarlier earlier 0
    no_earlier earlier none onto link has = subst (λ o. Tells o (GoesBelow 0 onto)) (sym (none (key_of onto))) (λ chain. none_below (cells_of links) (GoesFrom onto chain))

    module _ (chains : StartMap) (all_chains : (at : CellAt) (link : CellLink) → HasLink links at link → Tells (starts_of chains at) (IsStartOf links led at)) where
      module _ (earlier : StartMap) (number : ℕ) (entry : Entry) (within : number < length (cells_of links)) (item : (d : Entry) → get_or (cells_of links) number d ≡ entry)
          (are : AreEarlier earlier number) where
        here : HasLink links entry.1.0 entry.1.1
        here = (in_use entry number within (item entry)).1

        told_here : (starts : Starts) → starts_of chains entry.1.0 ≡ Some starts → Tells (Some starts) (IsStartOf links led entry.1.0)
        told_here starts told = subst (λ o. Tells o (IsStartOf links led entry.1.0)) told (all_chains entry.1.0 entry.1.1 here)

        pub was_late : GoesLate links chains earlier entry.1.0 entry.1.1 → IsLate links led entry.1.0 entry.1.1
        was_late (onto, starts, (goes, told), differ) =
            let apart = differ_to (GoesBelow number onto) (IsStartOf links led entry.1.0) (starts_of earlier onto) starts (are onto goes.1.0 goes.1.1) (told_here starts told) differ in
            let one = was_earlier (GoesFrom onto apart.0) number entry within item apart.2 in
            (onto, apart.1, one.0, apart.0, one.1, goes, apart.3, one.2, one.3.0, one.3.1, apart.4, one.4)

        pub is_late : IsLate links led entry.1.0 entry.1.1 → GoesLate links chains earlier entry.1.0 entry.1.1
        is_late (onto, start, other, chain, link, goes, of, has, on, of_chain, apart, less) =
            let told = told_some (IsStartOf links led entry.1.0) (starts_of chains entry.1.0) (all_chains entry.1.0 entry.1.1 here) start of in
            let below = is_earlier (GoesFrom onto chain) number entry within item other link has (on, of_chain) less in
            (onto, told.0, (goes, told.1), differ_from (GoesBelow number onto) (IsStartOf links led entry.1.0) (starts_of earlier onto) told.0 (are onto goes.1.0 goes.1.1) (told_here told.0 told.1) chain start below of apart)

        pub late_here : (home : Home) → ((home_of entry.1.0 ≡ home) × GoesLate links chains earlier entry.1.0 entry.1.1) ↔ HasLate links led home entry.1.0 entry.1.1
        late_here home = ((λ (same, late). (same, was_late late)), (λ (same, late). (same, is_late late)))

        more : (onto chain : CellAt) → (GoesBelow number onto chain ⊎ GoesFrom onto chain entry.1.0 entry.1.1) ↔ GoesBelow (number + 1) onto chain
        more onto chain = below_more (cells_of links) (GoesFrom onto chain) number entry item

        -- a cell to which the cell there does not go on
        others : (new : StartMap) (at : CellAt) (link : CellLink) → HasLink links at link → ((chain : CellAt) → ¬ GoesFrom at chain entry.1.0 entry.1.1) → starts_of new at ≡ starts_of earlier at
            → Tells (starts_of new at) (GoesBelow (number + 1) at)
        others new at link has none same =
            subst (λ o. Tells o (GoesBelow (number + 1) at)) (sym same)
            (tells_same (GoesBelow number at) (GoesBelow (number + 1) at)
            (λ chain. (λ before. (more at chain).0 (inl before), λ after. ⊎_elim (λ before. before) (λ goes. absurd (none chain goes)) ((more at chain).1 after)))
            (starts_of earlier at) (are at link has))

        goes_there : (new : StartMap) (at : CellAt) (link : CellLink) (starts : Starts) → HasLink links at link → GoesTo links entry.1.1 at → starts_of chains entry.1.0 ≡ Some starts
            → starts_of new at ≡ Some (joined (starts_of earlier at) starts) → Tells (starts_of new at) (GoesBelow (number + 1) at)
        goes_there new at link starts has goes told put =
            subst (λ o. Tells o (GoesBelow (number + 1) at)) (sym put)
            (tells_same (λ chain. GoesBelow number at chain ⊎ IsStartOf links led entry.1.0 chain) (GoesBelow (number + 1) at)
            (λ chain. (
              λ which. (more at chain).0 (⊎_elim (λ before. inl before) (λ of. inr (goes, of)) which),
              λ after. ⊎_elim (λ before. inl before) (λ from. inr from.1) ((more at chain).1 after),
            ))
            (Some (joined (starts_of earlier at) starts))
            (tells_joined (GoesBelow number at) (IsStartOf links led entry.1.0) (starts_of earlier at) starts (are at link has) (told_here starts told)))

        one_onto : (onto at : CellAt) → GoesTo links entry.1.1 onto → GoesTo links entry.1.1 at → onto ≡ at
        one_onto onto at goes also = some_same onto at (sym goes.0 ∙ also.0)

        pub earlier_more : (new : StartMap) → JoinsLead links chains entry.1.0 entry.1.1 earlier new → AreEarlier new (number + 1)
        earlier_more new (inl (onto, starts, (goes, told), joins)) at link has =
            elim (key_of onto == key_of at) as (λ b. (key_of onto == key_of at) ≡ b → told_in new (key_of at) ≡ (if b then Some (joined (told_in earlier (key_of onto)) starts) else told_in earlier (key_of at))
            → Tells (starts_of new at) (GoesBelow (number + 1) at)) [
              | true ↦ λ test put.
                  let keys = eqb-true (key_of onto) (key_of at) test in
                  let same = one_key links onto at goes.1.0 link goes.1.1 has keys in
                  goes_there new at link starts has (subst (GoesTo links entry.1.1) same goes) told (put ∙ ap (λ n. Some (joined (told_in earlier n) starts)) keys)
              | false ↦ λ test put.
                  others new at link has (λ chain from. apart_of (key_of onto) (key_of at) test (ap key_of (one_onto onto at goes from.0))) put
            ] refl (joins (key_of at))
        earlier_more new (inr (none, stays)) at link has =
            others new at link has
            (λ chain from. let told = told_some (IsStartOf links led entry.1.0) (starts_of chains entry.1.0) (all_chains entry.1.0 entry.1.1 here) chain from.1 in none at told.0 (from.0, told.1))
            (stays (key_of at))
