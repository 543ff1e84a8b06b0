-- What is read of cells, page by page and cell by cell.
use Rattle.std.proofs.Common.{◌≡◌, ◌∙◌, ◌⊎◌, ◌↔◌, inl, inr, ℕ, ◌+◌, ◌<◌, ◌≤◌, List, get_or, length, Some, refl, sym, ap, subst, arith, ⊎_elim}
use Rattle.std.proofs.lemmas.Bool.{cases_lt}
use Rattle.page_ways.specs.domain_base.declared.place.CellAt.{CellAt}
use Rattle.page_ways.specs.domain_base.declared.place.Home.{Home}
use Rattle.page_ways.specs.page_store.Pages.{Pages}
use Rattle.page_ways.specs.metadata_cells.Cell.{kind_number}
use Rattle.page_ways.specs.metadata_cells.CellPage.{cell_at, cell_of, home_of}
use Rattle.page_ways.specs.metadata_cells.declared.head.CellKind.{CellKind}
use Rattle.page_ways.specs.metadata_cells.declared.head.CellKind.TheVariants.{Chain, Primary, Quota, Volume}
use Rattle.page_ways.specs.domain_layout.CellRules.{IsCellsPage, IsLink}
use Rattle.page_ways.specs.domain_layout.Reached.{Frame}
use Rattle.cell_faults.specs.Tables.{AreTables}
use Rattle.cell_faults.specs.declared.tables.CellsPage.{CellsPage}
use Rattle.cell_faults.proofs.WrongCell.{cell_said, on}
use Rattle.cell_chains.specs.Links.{HasLink}
use Rattle.cell_chains.specs.declared.links.CellLink.{CellLink}
use Rattle.cell_chains.specs.declared.links.CellLinks.{CellLinks}
use Rattle.cell_chains.proofs.Cells.{same_cell}
use Rattle.cell_faults.specs.Links.{AgreeOnPage, AreLinks, AreLinksOn, IsLinkOn, SaysLink, link_in}

some_same : {X : Type 0} (a b : X) → Some a ≡ Some b → a ≡ b
some_same a b e = cc

-- ---- a cell of a page

one_kind : (a b : CellKind) → kind_number a ≡ kind_number b → a ≡ b
one_kind Primary Primary e = refl
one_kind Primary Chain e = absurd (omega (arith, e))
one_kind Primary Quota e = absurd (omega (arith, e))
one_kind Primary Volume e = absurd (omega (arith, e))
one_kind Chain Primary e = absurd (omega (arith, e))
one_kind Chain Chain e = refl
one_kind Chain Quota e = absurd (omega (arith, e))
one_kind Chain Volume e = absurd (omega (arith, e))
one_kind Quota Primary e = absurd (omega (arith, e))
one_kind Quota Chain e = absurd (omega (arith, e))
one_kind Quota Quota e = refl
one_kind Quota Volume e = absurd (omega (arith, e))
one_kind Volume Primary e = absurd (omega (arith, e))
one_kind Volume Chain e = absurd (omega (arith, e))
one_kind Volume Quota e = absurd (omega (arith, e))
one_kind Volume Volume e = refl

one_said : (bytes : List ℕ) (a b : CellLink) → SaysLink bytes a → SaysLink bytes b → a ≡ b
one_said bytes a b one other =
    let kinds = one_kind a.kind b.kind (sym one.kind ∙ other.kind) in
    let nexts = one.next ∙ sym other.next in
    λ i. record { kind = kinds i; next = nexts i }

is_on : (at : CellAt) (home : Home) → home_of at ≡ home → at ≡ on home at.cell
is_on at home same = λ i. record { vol = (same i).vol; page = (same i).page; cell = at.cell }

module _ (old links new : CellLinks) (page : List ℕ) (home : Home) (number : ℕ) (agree : AgreeOnPage old page home) (within : number < 28) (are : AreLinksOn old links page home number) where
  abbrev here : CellAt
  here = on home number

  is_here : (at : CellAt) → at.cell < number + 1 → number ≤ at.cell → home_of at ≡ home → at ≡ here
  is_here at below least same = is_on at home same ∙ (let e : at.cell ≡ number = omega (arith, below, least) in ap (on home) e)

  pub link_in_use : (said : CellLink) → SaysLink (cell_of page number) said
      → ((one : CellAt) (read : CellLink) → HasLink new one read ↔ (((one ≡ here) × (read ≡ said)) ⊎ ((¬ one ≡ here) × HasLink links one read)))
      → AreLinksOn old new page home (number + 1)
  link_in_use said says put at link = (to, from)
    where
      at_here : IsLinkOn page home here said
      at_here = record { on = refl; within = within; says = says }

      to : HasLink new at link → HasLink old at link ⊎ ((at.cell < number + 1) × IsLinkOn page home at link)
      to has =
          ⊎_elim (λ same. inr (subst (λ (a : CellAt). (a.cell < number + 1) × IsLinkOn page home a link) (sym same.0) (omega arith, subst (IsLinkOn page home here) (sym same.1) at_here)))
          (λ other. ⊎_elim (λ before. inl before) (λ there. inr (omega (arith, there.0), there.1)) ((are at link).0 other.1)) ((put at link).0 has)

      from : HasLink old at link ⊎ ((at.cell < number + 1) × IsLinkOn page home at link) → HasLink new at link
      from (inr (below, there)) =
          ⊎_elim (λ low. (put at link).1 (inr ((λ same. let e : at.cell ≡ number = ap (λ (a : CellAt). a.cell) same in absurd (omega (arith, low, e))), (are at link).1 (inr (low, there)))))
          (λ least.
          let same = is_here at below least there.on in
          let e : at.cell ≡ number = omega (arith, below, least) in
          (put at link).1 (inl (same, one_said (cell_of page number) link said (subst (λ k. SaysLink (cell_of page k) link) e there.says) says)))
          (cases_lt at.cell number)
      from (inl before) =
          ⊎_elim
          (λ same.
          let there = agree at link before (ap home_of same) in
          let e : at.cell ≡ number = ap (λ (a : CellAt). a.cell) same in
          (put at link).1 (inl (same, one_said (cell_of page number) link said (subst (λ k. SaysLink (cell_of page k) link) e there.says) says)))
          (λ other. (put at link).1 (inr (other, (are at link).1 (inl before)))) (same_cell at here)

  pub link_of_none : ((link : CellLink) → ¬ SaysLink (cell_of page number) link) → AreLinksOn old links page home (number + 1)
  link_of_none none at link = (
    λ has. ⊎_elim (λ before. inl before) (λ there. inr (omega (arith, there.0), there.1)) ((are at link).0 has),
    λ which. (are at link).1 (⊎_elim (λ before. inl before)
        (λ there. ⊎_elim (λ low. inr (low, there.1))
        (λ least.
        let e : at.cell ≡ number = omega (arith, there.0, least) in
        absurd (none link (subst (λ k. SaysLink (cell_of page k) link) e there.1.says)))
        (cases_lt at.cell number)) which),
  )

-- ---- the cells of all pages

module _ (pages : Pages) (frame : Frame) where
  module _ (place : ℕ) (home : Home) (bytes : List ℕ) (is : IsCellsPage pages frame place home bytes) (at : CellAt) (link : CellLink) (same : home_of at ≡ home) where
    there_at : at.cell < 28 → cell_at pages at ≡ Some (cell_of bytes at.cell)
    there_at within = subst (λ (a : CellAt). cell_at pages a ≡ Some (cell_of bytes at.cell)) (sym (is_on at home same)) (cell_said pages frame home place bytes is at.cell within)

    pub link_on : IsLink pages frame at (link_in link) → IsLinkOn bytes home at link
    link_on leads =
        let alike : leads.bytes ≡ cell_of bytes at.cell = some_same leads.bytes (cell_of bytes at.cell) (sym leads.there ∙ there_at leads.place.within) in
        record {
          on = same;
          within = leads.place.within;
          says = subst (λ l. SaysLink l link) alike (record { kind = leads.kind; next = leads.next });
        }

    pub on_link : IsLinkOn bytes home at link → IsLink pages frame at (link_in link)
    on_link on_page = record {
      place = record { place = place; page = bytes; is = subst (λ h. IsCellsPage pages frame place h bytes) (sym same) is; within = on_page.within };
      bytes = cell_of bytes at.cell;
      there = there_at on_page.within;
      kind = on_page.says.kind;
      next = on_page.says.next;
    }

  module _ (read : List CellsPage) where
    -- the cell stands on a page at a place below a number
    abbrev pub StandsBelow : ℕ → CellAt → Type 0
    StandsBelow number at = (page : CellsPage) × ((k : ℕ) × (k < number) × (get_or read k page ≡ page)) × (home_of at ≡ page.home)

    abbrev pub AreLinksBelow : CellLinks → ℕ → Type 0
    AreLinksBelow links number = (at : CellAt) (link : CellLink) → HasLink links at link ↔ (StandsBelow number at × IsLink pages frame at (link_in link))

    module _ (old new : CellLinks) (number : ℕ) (page : CellsPage) (bytes : List ℕ) (are : AreLinksBelow old number) (is : IsCellsPage pages frame page.place page.home bytes) (item : (d : CellsPage) → get_or read number d ≡ page) where
      pub agrees : AgreeOnPage old bytes page.home
      agrees at link has same = link_on page.place page.home bytes is at link same ((are at link).0 has).1

      pub page_more : AreLinksOn old new bytes page.home 28 → AreLinksBelow new (number + 1)
      page_more put at link = (
        λ has. ⊎_elim (λ before. let told = (are at link).0 before in (further at told.0, told.1))
            (λ there. ((page, (number, omega arith, item page), there.1.on), on_link page.place page.home bytes is at link there.1.on there.1)) ((put at link).0 has),
        λ (stands, leads). (put at link).1 (⊎_elim (λ below. inl ((are at link).1 (below, leads)))
            (λ same. let there = link_on page.place page.home bytes is at link same leads in inr (there.within, there)) (last at stands)),
      )
        where
          further : (at : CellAt) → StandsBelow number at → StandsBelow (number + 1) at
          further at (one, (k, below, there), same) = (one, (k, omega (arith, below), there), same)

          last : (at : CellAt) → StandsBelow (number + 1) at → StandsBelow number at ⊎ (home_of at ≡ page.home)
          last at (one, (k, below, there), same) =
              ⊎_elim (λ low. inl (one, (k, low, there), same))
              (λ high.
              let here : k ≡ number = omega (arith, below, high) in
              let alike : one ≡ page = sym (subst (λ n. get_or read n one ≡ one) here there) ∙ item one in
              inr (same ∙ (λ i. (alike i).home)))
              (cases_lt k number)

    pub all_links : (unread : List Home) → AreTables pages frame read unread → (links : CellLinks) (number : ℕ) → length read ≤ number → AreLinksBelow links number → AreLinks pages frame links
    all_links unread tables links number whole are at link = (
      λ has. ((are at link).0 has).1,
      λ leads.
          let page : CellsPage = record { home = home_of at; place = leads.place.place } in
          let among = (tables.each page).1 (leads.place.page, leads.place.is) in
          (are at link).1 ((page, (among.0, omega (arith, among.1, whole), among.2), (λ i. home_of at)), leads),
    )
