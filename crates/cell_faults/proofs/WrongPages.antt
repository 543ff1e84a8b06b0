-- Pages of cells that are wrong, put into a set one by one.
use Rattle.std.proofs.Common.{◌≡◌, ◌∙◌, ◌⊎◌, ◌↔◌, inl, inr, ℕ, ◌+◌, ◌<◌, List, get_or, length, Contains, Some, sym, subst, arith, ⊎_elim}
use Rattle.std.proofs.lemmas.Bool.{cases_lt}
use Rattle.page_ways.specs.domain_base.declared.place.Home.{Home}
use Rattle.page_ways.specs.page_store.Pages.{Pages}
use Rattle.page_ways.specs.fileset_table.Table.{Table}
use Rattle.page_ways.specs.domain_layout.CellRules.{HasWrongCell, HasWrongHeader, IsCellsPage}
use Rattle.page_ways.specs.domain_layout.Reached.{Frame}
use Rattle.cell_faults.specs.Pages.{IsWrongHeader}
use Rattle.cell_faults.specs.Rules.{HasWrongPlace, IsLocalFault, IsWrongAmong, IsWrongThere}
use Rattle.cell_faults.specs.Tables.{AreTables}
use Rattle.cell_faults.proofs.WrongPlace.{placed}
use Rattle.cell_faults.specs.declared.tables.CellsPage.{CellsPage}

some_same : {X : Type 0} (a b : X) → Some a ≡ Some b → a ≡ b
some_same a b e = cc

-- a header is wrong of the page that stands there
pub one_header : (pages : Pages) (frame : Frame) (page : CellsPage) (bytes : List ℕ) → pages page.home ≡ Some bytes
    → ((other : List ℕ) × IsCellsPage pages frame page.place page.home other × IsWrongHeader other page.place) → IsWrongHeader bytes page.place
one_header pages frame page bytes there (other, is, wrong) =
    subst (λ (l : List ℕ). IsWrongHeader l page.place) (some_same other bytes (sym is.read.there ∙ there)) wrong

module _ (pages : Pages) (frame : Frame) (table : Table) (read : List CellsPage) where
  -- a page at a place below a number is wrong
  abbrev pub IsWrongBelow : ℕ → Home → Type 0
  IsWrongBelow number home = (page : CellsPage) × ((k : ℕ) × (k < number) × (get_or read k page ≡ page)) × (page.home ≡ home) × IsWrongThere pages frame table page

  abbrev pub AreIn : (Home → Type 0) → (Home → Type 0) → ℕ → Type 0
  AreIn old new number = (home : Home) → new home ↔ (old home ⊎ IsWrongBelow number home)

  pub wrong_in : (old new more : Home → Type 0) (number : ℕ) (page : CellsPage) → AreIn old new number → number < length read → ((d : CellsPage) → get_or read number d ≡ page)
      → IsWrongThere pages frame table page → ((home : Home) → more home ↔ (new home ⊎ (home ≡ page.home))) → AreIn old more (number + 1)
  wrong_in old new more number page are within at wrong put home = (
    λ is. ⊎_elim (λ before. ⊎_elim (λ first. inl first) (λ below. inr (further below)) ((are home).0 before)) (λ same. inr (page, (number, omega arith, at page), sym same, wrong)) ((put home).0 is),
    λ which. (put home).1 (⊎_elim (λ first. inl ((are home).1 (inl first))) (λ below. last below) which),
  )
    where
      further : IsWrongBelow number home → IsWrongBelow (number + 1) home
      further (one, (k, below, is), same, broken) = (one, (k, omega (arith, below), is), same, broken)

      last : IsWrongBelow (number + 1) home → new home ⊎ (home ≡ page.home)
      last (one, (k, below, is), same, broken) =
          ⊎_elim (λ low. inl ((are home).1 (inr (one, (k, low, is), same, broken))))
          (λ high.
          let here : k ≡ number = omega (arith, below, high) in
          let alike : one ≡ page = sym (subst (λ n. get_or read n one ≡ one) here is) ∙ at one in
          inr (sym same ∙ (λ i. (alike i).home)))
          (cases_lt k number)

  pub right_in : (old new : Home → Type 0) (number : ℕ) (page : CellsPage) → AreIn old new number → ((d : CellsPage) → get_or read number d ≡ page) → ¬ IsWrongThere pages frame table page
      → AreIn old new (number + 1)
  right_in old new number page are at right home = (
    λ is. ⊎_elim (λ first. inl first) (λ (one, (k, below, there), same, broken). inr (one, (k, omega (arith, below), there), same, broken)) ((are home).0 is),
    λ which. (are home).1 (⊎_elim (λ first. inl first) (λ below. inr (last below)) which),
  )
    where
      last : IsWrongBelow (number + 1) home → IsWrongBelow number home
      last (one, (k, below, is), same, broken) =
          ⊎_elim (λ low. (one, (k, low, is), same, broken))
          (λ high.
          let here : k ≡ number = omega (arith, below, high) in
          let alike : one ≡ page = sym (subst (λ n. get_or read n one ≡ one) here is) ∙ at one in
          absurd (right (subst (IsWrongThere pages frame table) alike broken)))
          (cases_lt k number)

  module _ (unread : List Home) (are : AreTables pages frame read unread) (home : Home) where
    to_fault : Contains unread home ⊎ IsWrongAmong pages frame table read home → IsLocalFault pages frame table home
    to_fault (inl none) = inl ((are.none home).0 none)
    to_fault (inr (page, among, same, inl (bytes, is, wrong))) =
        inr (inl (subst (HasWrongHeader pages frame) same (record { place = page.place; page = bytes; is = is; wrong = wrong })))
    to_fault (inr (page, among, same, inr (inl cell))) = inr (inr (inl (subst (HasWrongCell pages frame) same cell)))
    to_fault (inr (page, among, same, inr (inr place))) = inr (inr (inr (subst (HasWrongPlace pages frame table) same place)))

    abbrev at_place : ℕ → CellsPage
    at_place place = record { home = home; place = place }

    from_fault : IsLocalFault pages frame table home → Contains unread home ⊎ IsWrongAmong pages frame table read home
    from_fault (inl none) = inl ((are.none home).1 none)
    from_fault (inr (inl header)) =
        inr (at_place header.place, (are.each (at_place header.place)).1 (header.page, header.is), (λ i. home), inl (header.page, header.is, header.wrong))
    from_fault (inr (inr (inl cell))) = inr (at_place cell.place, (are.each (at_place cell.place)).1 (cell.page, cell.is), (λ i. home), inr (inl cell))
    from_fault (inr (inr (inr (at, same, wrong)))) =
        let there = placed pages frame table at wrong in
        let is : IsCellsPage pages frame there.place home there.page = subst (λ h. IsCellsPage pages frame there.place h there.page) same there.is in
        inr (at_place there.place, (are.each (at_place there.place)).1 (there.page, is), (λ i. home), inr (inr (at, same, wrong)))

    pub local_all : (Contains unread home ⊎ IsWrongAmong pages frame table read home) ↔ IsLocalFault pages frame table home
    local_all = (to_fault, from_fault)
