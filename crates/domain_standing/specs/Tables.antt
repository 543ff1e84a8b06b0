-- The tables of a domain: pages of metadata, free space and cells as they say them.
use Rattle.std.specs.Prelude.{◌≡◌, ℕ, Some}
use Rattle.fileset_shapes.specs.domain_base.declared.place.CellAt.{CellAt}
use Rattle.fileset_shapes.specs.domain_base.declared.place.Home.{Home}
use Rattle.fileset_shapes.specs.metadata_cells.Cell.{Cell}
use Rattle.fileset_shapes.specs.metadata_cells.Chain.{StandsAt}
use Rattle.fileset_shapes.specs.log_recovery.Range.{IsLogInside}
use Rattle.fileset_shapes.specs.log_ring.Homes.{IsMember}
use Rattle.domain_standing.specs.Space.{AreCellsOf, AreFew}
use Rattle.fileset_shapes.specs.domain_layout.CellRules.{SaysVolume}
use Rattle.fileset_shapes.specs.domain_layout.Layout.{IsLayout}
use Rattle.fileset_shapes.specs.domain_layout.Reached.{Frame, MayBe, first_cells}
use Rattle.domain_standing.specs.Domain.{DomainNow, layout_of}

-- the place of a volume's first cell
abbrev pub first_place : Frame → ℕ → CellAt
first_place frame vol = record { vol = vol; page = first_cells frame vol; cell = 0 }

-- the first cell of a volume says the volume
pub record HasVolumeCell (d : DomainNow) (vol : ℕ) : Type 0 where
  pub cell : Cell
  pub stands : StandsAt d.pages (first_place d.frame vol) cell
  pub says : SaysVolume d.frame vol cell

-- the pages of tables stand where memory has them, and the table of filesets on a page that it may
-- have; the log lies within its volume, no volume is larger than the version allows, each has a
-- first cell that says it, and the free cells are those that the pages say
pub record StandTables (d : DomainNow) : Type 0 where
  pub laid : IsLayout d.pages (layout_of d)
  pub log : IsLogInside d.frame.version d.frame.anchor
  pub few : AreFew (layout_of d)
  pub may : (home : Home) → d.frame.anchor.table ≡ Some home → MayBe d.frame home
  pub volumes : (vol : ℕ) → IsMember d.frame.anchor vol → HasVolumeCell d vol
  pub cells : AreCellsOf d.pages (layout_of d) d.cells
