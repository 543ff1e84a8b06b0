-- What is read of the cells of a domain.
use Rattle.std.specs.Prelude.{◌≡◌, ◌⊎◌, ◌↔◌, ◌<◌, ℕ, List}
use Rattle.page_ways.specs.domain_base.declared.place.CellAt.{CellAt}
use Rattle.page_ways.specs.domain_base.declared.place.Home.{Home}
use Rattle.page_ways.specs.page_store.Pages.{Pages}
use Rattle.page_ways.specs.cell_records.Fields.{number_at}
use Rattle.page_ways.specs.metadata_cells.Cell.{kind_number}
use Rattle.page_ways.specs.metadata_cells.CellPage.{cell_of, home_of}
use Rattle.page_ways.specs.domain_layout.CellRules.{IsLink, Link, next_in}
use Rattle.page_ways.specs.domain_layout.Reached.{Frame}
use Rattle.cell_chains.specs.Links.{HasLink}
use Rattle.cell_chains.specs.declared.links.CellLink.{CellLink}
use Rattle.cell_chains.specs.declared.links.CellLinks.{CellLinks}

-- a link as the definition of the layout has it
abbrev pub link_in : CellLink → Link
link_in link = record { kind = link.kind; next = link.next }

-- the bytes of a cell in use say this link
pub record SaysLink (bytes : List ℕ) (link : CellLink) : Type 0 where
  pub kind : number_at 1 15 bytes ≡ kind_number link.kind
  pub next : link.next ≡ next_in bytes

-- what is read of each cell in use
abbrev pub AreLinks : Pages → Frame → CellLinks → Type 0
AreLinks pages frame links =
    (at : CellAt) (link : CellLink) → HasLink links at link ↔ IsLink pages frame at (link_in link)

-- a cell of the page that stands at a home is in use, and its bytes say this link
pub record IsLinkOn (page : List ℕ) (home : Home) (at : CellAt) (link : CellLink) : Type 0 where
  pub on : home_of at ≡ home
  pub within : at.cell < 28
  pub says : SaysLink (cell_of page at.cell) link

-- what is said of cells of the page is what their bytes say
abbrev pub AgreeOnPage : CellLinks → List ℕ → Home → Type 0
AgreeOnPage links page home =
    (at : CellAt) (link : CellLink) → HasLink links at link → home_of at ≡ home
    → IsLinkOn page home at link

-- what was said before, and what the bytes of the cells of the page below a number say
abbrev pub AreLinksOn : CellLinks → CellLinks → List ℕ → Home → ℕ → Type 0
AreLinksOn old new page home number =
    (at : CellAt) (link : CellLink) → HasLink new at link
    ↔ (HasLink old at link ⊎ ((at.cell < number) × IsLinkOn page home at link))
