-- Whether the cell at a place, by itself, may stand there.
use Rattle.std.proofs.Common.{◌≡◌, ◌∙◌, ◌↔◌, inl, inr, ◌+◌, ◌<◌, ◌≤◌, ℕ, Bool, false, IsTrue, List, Some, refl, sym, ap, subst, arith, ⊎_elim}
use Rattle.std.proofs.lemmas.Bool.{cases_lt}
use mathlib.Core.Bool.{false≢true}
use Rattle.page_ways.specs.domain_base.declared.place.CellAt.{CellAt}
use Rattle.page_ways.specs.domain_base.declared.place.Home.{Home}
use Rattle.page_ways.specs.page_store.Pages.{Pages}
use Rattle.page_ways.specs.cell_records.Fields.{number_at}
use Rattle.page_ways.specs.metadata_cells.Cell.{Cell, kind_number}
use Rattle.page_ways.specs.metadata_cells.CellPage.{cell_at, cell_of, home_of}
use Rattle.page_ways.specs.metadata_cells.Chain.{StandsAt}
use Rattle.page_ways.specs.metadata_cells.declared.head.CellKind.{CellKind}
use Rattle.page_ways.specs.metadata_cells.declared.head.CellKind.TheVariants.{Chain, Primary, Quota, Volume}
use Rattle.page_ways.proofs.OfMetadataCells.Unique.{one_stands}
use Rattle.page_ways.specs.fileset_table.Table.{Table}
use Rattle.page_ways.specs.domain_layout.CellRules.{IsCellsPage, IsFirstPlace, IsLink, IsPlace, IsUsed, Link, SaysVolume, next_in}
use Rattle.page_ways.specs.domain_layout.Reached.{Frame}
use Rattle.cell_faults.specs.Rules.{HasWrongPlace, IsStrayVolume, IsWrongAt, IsWrongUsed, records_fit}
use Rattle.cell_faults.proofs.WrongCell.{cell_said, on}

some_same : {X : Type 0} (a b : X) → Some a ≡ Some b → a ≡ b
some_same a b e = cc

module _ (pages : Pages) (frame : Frame) (table : Table) (at : CellAt) (place : ℕ) (page : List ℕ) (is : IsCellsPage pages frame place (home_of at) page) (within : at.cell < 28) where
  bytes : List ℕ
  bytes = cell_of page at.cell

  there : cell_at pages at ≡ Some (cell_of page at.cell)
  there = cell_said pages frame (home_of at) place page is at.cell within

  is_place : IsPlace pages frame at
  is_place = record { place = place; page = page; is = is; within = within }

  pub stray : IsStrayVolume frame page at → IsWrongAt pages frame table at
  stray (kind, other) =
      let link : Link = record { kind = Volume; next = next_in (cell_of page at.cell) } in
      let leads : IsLink pages frame at link = record { place = is_place; bytes = cell_of page at.cell; there = there; kind = kind; next = refl } in
      inl (inr (link, leads, refl, other))

  is_stray : (link : Link) → IsLink pages frame at link → link.kind ≡ Volume → ¬ IsFirstPlace frame at → IsStrayVolume frame page at
  is_stray link leads kind other =
      let same : leads.bytes ≡ cell_of page at.cell = some_same leads.bytes (cell_of page at.cell) (sym leads.there ∙ there) in
      (ap (number_at 1 15) (sym same) ∙ leads.kind ∙ ap kind_number kind, other)

  -- where no cell stands, it is wrong exactly at the first place
  pub none_there : ((cell : Cell) → ¬ StandsAt pages at cell) → ¬ IsStrayVolume frame page at → (first : Bool) → IsTrue first ↔ IsFirstPlace frame at
      → IsTrue first ↔ IsWrongAt pages frame table at
  none_there none not_stray first firsts = (λ told. inl (inl (is_place, firsts.0 told, (λ cell stands says. none cell stands))), from)
    where
      from : IsWrongAt pages frame table at → IsTrue first
      from (inl (inl (there, at_first, none))) = firsts.1 at_first
      from (inl (inr (link, leads, kind, other))) = absurd (not_stray (is_stray link leads kind other))
      from (inr (inl wrong)) = absurd (none wrong.cell wrong.used.stands)
      from (inr (inr wrong)) = absurd (none wrong.cell wrong.used.stands)

  module _ (cell : Cell) (stands : StandsAt pages at cell) where
    used : IsUsed pages frame at cell
    used = record { place = is_place; stands = stands }

    by_kind : (kind : CellKind) → cell.head.kind ≡ kind → records_fit table kind cell ≡ false → IsWrongAt pages frame table at
    by_kind Primary kind misfit = inr (inl (record { cell = cell; used = used; kind = kind; wrong = misfit }))
    by_kind Chain kind misfit = inr (inr (record { cell = cell; used = used; wrong = inl (kind, misfit) }))
    by_kind Quota kind misfit = inr (inr (record { cell = cell; used = used; wrong = inr (kind, misfit) }))
    by_kind Volume kind misfit = absurd (false≢true (sym misfit))

    pub wrong_used : IsWrongUsed frame table at cell → IsWrongAt pages frame table at
    wrong_used (inl (first, other)) =
        inl (inl (is_place, first, λ one there says. other (subst (SaysVolume frame at.vol) (one_stands pages at one cell there stands) says)))
    wrong_used (inr misfit) = by_kind cell.head.kind refl misfit

    fits_not : (one : Cell) (kind : CellKind) → IsUsed pages frame at one → one.head.kind ≡ kind → records_fit table kind one ≡ false → records_fit table cell.head.kind cell ≡ false
    fits_not one kind there is_kind misfit =
        subst (λ (c : Cell). records_fit table c.head.kind c ≡ false) (one_stands pages at one cell there.stands stands)
        (subst (λ k. records_fit table k one ≡ false) (sym is_kind) misfit)

    pub is_wrong_used : ¬ IsStrayVolume frame page at → IsWrongAt pages frame table at → IsWrongUsed frame table at cell
    is_wrong_used not_stray (inl (inl (there, first, none))) = inl (first, none cell stands)
    is_wrong_used not_stray (inl (inr (link, leads, kind, other))) = absurd (not_stray (is_stray link leads kind other))
    is_wrong_used not_stray (inr (inl wrong)) = inr (fits_not wrong.cell Primary wrong.used wrong.kind wrong.wrong)
    is_wrong_used not_stray (inr (inr wrong)) =
        inr (⊎_elim (λ chain. fits_not wrong.cell Chain wrong.used chain.0 chain.1) (λ quota. fits_not wrong.cell Quota wrong.used quota.0 quota.1) wrong.wrong)

    pub some_there : ¬ IsStrayVolume frame page at → (wrong : Bool) → IsTrue wrong ↔ IsWrongUsed frame table at cell → IsTrue wrong ↔ IsWrongAt pages frame table at
    some_there not_stray wrong decides = (λ told. wrong_used (decides.0 told), λ is. decides.1 (is_wrong_used not_stray is))

-- ** All cells of a page

abbrev pub AreGoodPlaces : Pages → Frame → Table → Home → ℕ → Type 0
AreGoodPlaces pages frame table home number = (cell : ℕ) → cell < number → ¬ IsWrongAt pages frame table (on home cell)

pub good_place : (pages : Pages) (frame : Frame) (table : Table) (home : Home) (number : ℕ) → AreGoodPlaces pages frame table home number → ¬ IsWrongAt pages frame table (on home number)
    → AreGoodPlaces pages frame table home (number + 1)
good_place pages frame table home number are good cell below =
    ⊎_elim (λ low. are cell low)
    (λ high. let same : number ≡ cell = omega (arith, below, high) in subst (λ k. ¬ IsWrongAt pages frame table (on home k)) same good) (cases_lt cell number)

pub placed : (pages : Pages) (frame : Frame) (table : Table) (at : CellAt) → IsWrongAt pages frame table at → IsPlace pages frame at
placed pages frame table at (inl (inl (there, first, none))) = there
placed pages frame table at (inl (inr (link, leads, kind, other))) = leads.place
placed pages frame table at (inr (inl wrong)) = wrong.used.place
placed pages frame table at (inr (inr wrong)) = wrong.used.place

pub none_wrong : (pages : Pages) (frame : Frame) (table : Table) (home : Home) (number : ℕ) → 28 ≤ number → AreGoodPlaces pages frame table home number → ¬ HasWrongPlace pages frame table home
none_wrong pages frame table home number all are (at, same, wrong) =
    let is_on : at ≡ on home at.cell = λ i. record { vol = (same i).vol; page = (same i).page; cell = at.cell } in
    are at.cell (let there = placed pages frame table at wrong in omega (arith, there.within, all)) (subst (IsWrongAt pages frame table) is_on wrong)
