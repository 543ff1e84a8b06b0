-- Files that are read through other ones.
use Rattle.std.specs.Prelude.{◌≡◌, List, IsSome}
use Rattle.std.specs.Option.{option_and_then}
use Rattle.fileset_shapes.specs.domain_base.declared.place.CellAt.{CellAt}
use Rattle.fileset_shapes.specs.page_store.Pages.{Pages}
use Rattle.fileset_shapes.specs.cell_records.declared.record.Record.{Record}
use Rattle.fileset_shapes.specs.metadata_cells.Cell.{Cell, record_of}
use Rattle.fileset_shapes.specs.metadata_cells.declared.head.CellKind.TheVariants.{Primary}
use Rattle.release_steps.specs.release_list.Standing.{source_in}
use Rattle.fileset_shapes.specs.domain_layout.Layout.{Layout}
use Rattle.fileset_shapes.specs.domain_layout.Owners.{IsOnTable}
use Rattle.domain_standing.specs.Domain.{DomainNow, layout_of}

-- records say through which file another one is read
abbrev pub SaySource : List Record → Type 0
SaySource records = IsSome (option_and_then source_in (record_of 2 records))

-- a first cell in use says so
pub record HasSource (pages : Pages) (layout : Layout) (at : CellAt) : Type 0 where
  pub cell : Cell
  pub on : IsOnTable pages layout at cell
  pub kind : cell.head.kind ≡ Primary
  pub says : SaySource cell.records

-- no file reads through another one
abbrev pub HaveNoSource : Pages → Layout → Type 0
HaveNoSource pages layout = (at : CellAt) → ¬ HasSource pages layout at

-- so it is in a domain
abbrev pub StandAlone : DomainNow → Type 0
StandAlone d = HaveNoSource d.pages (layout_of d)
