-- A domain by the parts in which the set of files in one of its slots stands.
use Rattle.std.specs.Prelude.{◌≡◌, ◌≤◌, ℕ, List, [], ◌∷◌, None}
use Rattle.standing_laws.specs.domain_base.declared.place.CellAt.{CellAt}
use Rattle.standing_laws.specs.domain_base.declared.place.Home.{Home}
use Rattle.standing_laws.specs.domain_base.declared.version.Version.{Version}
use Rattle.standing_laws.specs.page_store.Pages.{Pages}
use Rattle.standing_laws.specs.tag_dirs.declared.dir.TagPlace.{TagPlace}
use Rattle.standing_laws.specs.free_cells.Cells.{Cells}
use Rattle.standing_laws.specs.free_space.Spaces.{Spaces}
use Rattle.standing_laws.specs.fileset_table.Table.{Table}
use Rattle.standing_laws.specs.release_list.Listing.{Adds, Listing}
use Rattle.standing_laws.specs.domain_layout.Filled.{Contents}
use Rattle.standing_laws.specs.domain_layout.Reached.{Frame}
use Rattle.standing_laws.specs.domain_standing.Domain.{DomainNow}
use Rattle.set_standing.specs.Around.{GoesOnAround, StandsAround}
use Rattle.set_standing.specs.Follow.{Said}

-- what a domain has beside them: its anchor and table, and how the bytes of its pages are read,
-- each by the page alone
pub record Surroundings : Type 0 where
  pub frame : Frame
  pub table : Table
  pub reads : Pages → Contents
  pub alone : (one other : Pages) (home : Home) → one home ≡ other home
      → reads one home ≡ reads other home

-- the parts: where the pages of the slot's tag directory stand, pages of metadata, free space and
-- free cells
pub record Parts : Type 0 where
  pub tags : List TagPlace
  pub pages : Pages
  pub space : Spaces
  pub cells : Cells

-- the domain that has these parts
abbrev pub domain_of : Surroundings → (ℕ → List TagPlace) → Parts → Listing → DomainNow
domain_of beside tags parts list = record {
  frame = beside.frame;
  table = beside.table;
  tags = tags;
  pages = parts.pages;
  contents = beside.reads parts.pages;
  space = parts.space;
  cells = parts.cells;
  list = list;
}

-- a file comes on the list that no clone reads
pub record AddsFile (at : CellAt) (list list_now : Listing) : Type 0 where
  pub entries : Adds at None list.entries list_now.entries
  pub tag_pages : list_now.tag_pages ≡ list.tag_pages

-- and each of these, one after another
abbrev pub AddsFiles : List CellAt → Listing → Listing → Type 0
AddsFiles [] list list_now = list_now ≡ list
AddsFiles (at ∷ more) list list_now =
    (between : Listing) × AddsFile at list between × AddsFiles more between list_now

-- the tag directories of a domain, before and after a call on the slot
pub record TagsOf (number : ℕ) (parts parts_now : Parts) (tags tags_now : ℕ → List TagPlace)
    : Type 0 where
  pub was : tags number ≡ parts.tags
  pub is : tags_now number ≡ parts_now.tags
  pub others : (other : ℕ) → ¬ other ≡ number → tags_now other ≡ tags other

-- whatever domain stood around the slot with the old parts stands around it with the new ones, once
-- these files are on the list; new files are of no clone that was not made
abbrev pub KeepsAround : (said : Said) (number : ℕ) (version : Version) (born : ℕ)
    (removed : List CellAt) → (parts parts_now : Parts) → Type 0
KeepsAround said number version born removed parts parts_now =
    (beside : Surroundings) (tags tags_now : ℕ → List TagPlace) (list list_now : Listing)
    → beside.frame.version ≡ version → born ≤ beside.table.made
    → TagsOf number parts parts_now tags tags_now → AddsFiles removed list list_now
    → StandsAround number (domain_of beside tags parts list)
    → GoesOnAround said number (domain_of beside tags parts list)
    (domain_of beside tags_now parts_now list_now)
