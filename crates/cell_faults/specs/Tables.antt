-- The pages of cells of a domain's members, read.
use Rattle.std.specs.Prelude.{◌↔◌, ◌+◌, ◌<◌, ℕ, List, Contains}
use Rattle.page_ways.specs.domain_base.declared.place.Home.{Home}
use Rattle.page_ways.specs.page_store.Pages.{Pages}
use Rattle.page_ways.specs.domain_layout.CellRules.{IsCellsPage, IsNoCellsPage}
use Rattle.page_ways.specs.domain_layout.Reached.{Frame, IsUnread, cells_way}
use Rattle.cell_faults.specs.declared.tables.CellsPage.{CellsPage}
use Rattle.page_ways.specs.log_ring.Homes.{IsMember}

-- a page of cells is read at its place
abbrev pub IsThere : Pages → Frame → CellsPage → Type 0
IsThere pages frame page = (bytes : List ℕ) × IsCellsPage pages frame page.place page.home bytes

-- it is read at some place
abbrev pub IsCellsHome : Pages → Frame → Home → Type 0
IsCellsHome pages frame home = (place : ℕ) × IsThere pages frame (record {
  home = home;
  place = place;
})

-- the pages of cells that are read, and those that are come to and are none
pub record AreTables (pages : Pages) (frame : Frame) (read : List CellsPage) (unread : List Home)
    : Type 0 where
  pub each : (page : CellsPage) → Contains read page ↔ IsThere pages frame page
  pub none : (home : Home) → Contains unread home ↔ IsNoCellsPage pages frame home

-- a page is come to from the first one of a volume below a number, and is none of cells
pub record IsNoneBelow (number : ℕ) (pages : Pages) (frame : Frame) (home : Home) : Type 0 where
  pub vol : ℕ
  pub below : vol < number
  pub member : IsMember frame.anchor vol
  pub unread : IsUnread pages frame (cells_way frame vol) home

-- those of the volumes below a number
pub record AreTablesBelow (number : ℕ) (pages : Pages) (frame : Frame) (read : List CellsPage)
    (unread : List Home) : Type 0 where
  pub each : (page : CellsPage) → Contains read page
      ↔ ((page.home.vol < number) × IsThere pages frame page)
  pub none : (home : Home) → Contains unread home ↔ IsNoneBelow number pages frame home

-- those of the volumes up to this one
abbrev pub AreTablesUpTo : ℕ → Pages → Frame → List CellsPage → List Home → Type 0
AreTablesUpTo number = AreTablesBelow (number + 1)
