-- What is read of the fileset table of a domain.
use Rattle.std.specs.Prelude.{◌≡◌, Option, Some, None, IsSomeAnd}
use Rattle.page_ways.specs.domain_base.declared.place.Home.{Home}
use Rattle.page_ways.specs.page_store.Pages.{Pages}
use Rattle.page_ways.specs.fileset_table.Page.{IsTablePage}
use Rattle.page_ways.specs.fileset_table.Table.{Table}
use Rattle.page_ways.specs.domain_layout.Faults.{IsTableFault, SaysTable}
use Rattle.page_ways.specs.domain_layout.Reached.{Frame}
use Rattle.cell_faults.specs.declared.reading.TableRead.{TableRead}
use Rattle.cell_faults.specs.declared.reading.TableRead.TheVariants.{Unnamed, Wrong, There}

-- a page is there and says the table
abbrev pub SaysThere : Pages → Home → Table → Type 0
SaysThere pages home table = IsSomeAnd (pages home) (λ page. IsTablePage page table)

-- the page says the table, and none breaks the rule of tables
abbrev pub IsWholeTable : Pages → Frame → Table → Type 0
IsWholeTable pages frame table =
    SaysTable pages frame table × ((home : Home) → ¬ IsTableFault pages frame home)

-- the anchor names no page; the one that it names breaks the rule; or it says the table
abbrev pub IsTableRead : Pages → Frame → TableRead → Type 0
IsTableRead pages frame Unnamed = frame.anchor.table ≡ None
IsTableRead pages frame (Wrong home) = IsTableFault pages frame home
IsTableRead pages frame (There table) = IsWholeTable pages frame table

-- the page that breaks the rule, if one does
abbrev pub wrong_home_of : TableRead → Option Home
wrong_home_of (Wrong home) = Some home
wrong_home_of _ = None
