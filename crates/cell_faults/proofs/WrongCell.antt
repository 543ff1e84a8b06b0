-- A page has a wrong cell where at one of its places none stands that the version has.
use Rattle.std.proofs.Common.{◌≡◌, ◌&&◌, ◌∙◌, ◌<◌, ◌+◌, ℕ, true, List, Some, None, nat_lt, if◌then◌else◌, sym, ap, subst, arith, ⊎_elim}
use Rattle.std.specs.Option.{option_and_then}
use Rattle.std.proofs.lemmas.Bool.{cases_lt}
use Rattle.std.proofs.lemmas.Bool.Decides.{nat_tests}
use Rattle.page_ways.specs.domain_base.declared.place.CellAt.{CellAt}
use Rattle.page_ways.specs.domain_base.declared.place.Home.{Home}
use Rattle.page_ways.specs.domain_base.declared.version.Version.{Version}
use Rattle.page_ways.specs.page_store.Pages.{Pages}
use Rattle.page_ways.specs.metadata_cells.Cell.{Cell, IsCell, IsFreeCell}
use Rattle.page_ways.specs.metadata_cells.CellPage.{cell_at, cell_of, is_cell_page}
use Rattle.page_ways.specs.metadata_cells.Chain.{StandsAt}
use Rattle.page_ways.specs.domain_layout.CellRules.{HasWrongCell, IsCellsPage}
use Rattle.page_ways.specs.domain_layout.Reached.{Frame}
use Rattle.cell_faults.specs.Pages.{HasNoCell}

-- a cell of the page at a home
abbrev pub on : Home → ℕ → CellAt
on home cell = record { vol = home.vol; page = home.page; cell = cell }

abbrev pub AreGoodBelow : Pages → Version → List ℕ → Home → ℕ → Type 0
AreGoodBelow pages version page home number = (cell : ℕ) → cell < number → ¬ HasNoCell pages version page (on home cell)

some_same : {X : Type 0} (a b : X) → Some a ≡ Some b → a ≡ b
some_same a b e = cc

pub good_one : (pages : Pages) (version : Version) (page : List ℕ) (home : Home) (number : ℕ) → AreGoodBelow pages version page home number → ¬ HasNoCell pages version page (on home number)
    → AreGoodBelow pages version page home (number + 1)
good_one pages version page home number are good cell below =
    ⊎_elim (λ low. are cell low)
    (λ high. let same : number ≡ cell = omega (arith, below, high) in subst (λ k. ¬ HasNoCell pages version page (on home k)) same good) (cases_lt cell number)

module _ (pages : Pages) (frame : Frame) (home : Home) (place : ℕ) (page : List ℕ) (is : IsCellsPage pages frame place home page) where
  pub cell_said : (cell : ℕ) → cell < 28 → cell_at pages (on home cell) ≡ Some (cell_of page cell)
  cell_said cell within =
      let last : nat_lt cell 28 ≡ true = grind (arith, nat_tests) in
      ap (option_and_then (λ p. if is_cell_page p && nat_lt cell 28 then Some (cell_of p cell) else None)) is.read.there
      ∙ (λ i. if is.read.begins i && last i then Some (cell_of page cell) else None)

  stands_is : (cell : ℕ) (c : Cell) → cell < 28 → StandsAt pages (on home cell) c → IsCell (cell_of page cell) c
  stands_is cell c within stands = subst (λ bytes. IsCell bytes c) (some_same stands.bytes (cell_of page cell) (sym stands.there ∙ cell_said cell within)) stands.is

  pub wrong_there : (cell : ℕ) → cell < 28 → HasNoCell pages frame.version page (on home cell) → HasWrongCell pages frame home
  wrong_there cell within none = record {
    place = place;
    page = page;
    is = is;
    cell = cell;
    within = within;
    used = none.0;
    wrong = λ c known. none.1 c (record { bytes = cell_of page cell; there = cell_said cell within; is = known.is }) known.known;
  }

  pub none_wrong : AreGoodBelow pages frame.version page home 28 → ¬ HasWrongCell pages frame home
  none_wrong are wrong =
      let same : wrong.page ≡ page = some_same wrong.page page (sym wrong.is.read.there ∙ is.read.there) in
      are wrong.cell wrong.within (
        subst (λ (p : List ℕ). ¬ IsFreeCell (cell_of p wrong.cell)) same wrong.used,
        λ c stands all. wrong.wrong c
            (record { is = subst (λ (p : List ℕ). IsCell (cell_of p wrong.cell) c) (sym same) (stands_is wrong.cell c wrong.within stands); known = all }),
      )

-- the page that is read is the one that stands there
pub moved : (pages : Pages) (frame : Frame) (home : Home) (place : ℕ) (one other : List ℕ) → IsCellsPage pages frame place home one → pages home ≡ Some other → IsCellsPage pages frame place home other
moved pages frame home place one other is there = subst (IsCellsPage pages frame place home) (some_same one other (sym is.read.there ∙ there)) is
