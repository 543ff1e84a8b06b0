-- The chains of a fileset's files, which are whole if no rule of tables and extents is broken.
use Rattle.std.specs.Prelude.{◌≡◌, ◌/◌, ◌^◌, ◌≤◌, ℕ, List, Some, slice_get}
use Rattle.domain_layout.specs.domain_base.declared.place.CellAt.{CellAt}
use Rattle.domain_layout.specs.domain_base.declared.place.Home.{Home}
use Rattle.domain_layout.specs.domain_base.declared.place.Tag.{Tag}
use Rattle.domain_layout.specs.page_store.Pages.{Pages}
use Rattle.domain_layout.specs.log_ring.Homes.{IsMember, member_of}
use Rattle.domain_layout.specs.metadata_cells.Chain.{IsBroken, LinksFrom, PlacedCell}
use Rattle.domain_layout.specs.tag_dirs.Directory.{IsDirectoryAt, cell_of}
use Rattle.domain_layout.specs.tag_dirs.declared.dir.TagPlace.{TagPlace}
use Rattle.domain_layout.specs.Faults.{HasNoExtentFault}
use Rattle.domain_layout.specs.Layout.{IsLayout, Layout}
use Rattle.domain_layout.specs.Owners.{frame_of}
use Rattle.domain_layout.specs.TagRules.{HasTags}

-- a chain of cells begins there
abbrev pub HasLinks : Pages → CellAt → Type 0
HasLinks pages at = (cells : List PlacedCell) × LinksFrom pages at cells

-- and so at each cell to which a tag leads
abbrev pub HaveLinks : Pages → List TagPlace → Type 0
HaveLinks pages places =
    (tag : Tag) (at : CellAt) → cell_of pages places tag ≡ Some at → HasLinks pages at

-- a chain of cells begins at each cell to which a tag of this slot leads
abbrev pub HasLinksAt : Pages → List TagPlace → ℕ → Type 0
HasLinksAt pages places slot = (tag : Tag) (at : CellAt) → tag.slot ≡ slot
    → cell_of pages places tag ≡ Some at → HasLinks pages at

-- a chain of cells begins at each cell to which a tag of a page's slots leads
abbrev pub HaveLinksOn : Pages → List TagPlace → TagPlace → Type 0
HaveLinksOn pages places place = (tag : Tag) (at : CellAt) → tag.slot / 1022 ≡ place.index
    → cell_of pages places tag ≡ Some at → HasLinks pages at

-- a page of a directory
abbrev pub IsPlaceOf : List TagPlace → TagPlace → Type 0
IsPlaceOf places place = (k : ℕ) × (slice_get places k ≡ Some place)

-- no chain to which a tag leads is broken
abbrev pub IsUnbroken : Pages → List TagPlace → Type 0
IsUnbroken pages places = (tag : Tag) (at broken : CellAt) → cell_of pages places tag ≡ Some at
    → ¬ IsBroken pages at broken

-- pages that are laid out as a domain's and break no rule of tables and extents; what is in a slot
-- has this tag directory, and no member has more pages than a number of four bytes says
pub record MayHaveFiles (pages : Pages) (number : ℕ) (places : List TagPlace) : Type 0 where
  pub layout : Layout
  pub laid : IsLayout pages layout
  pub no_fault : HasNoExtentFault pages (frame_of layout)
  pub small : (vol : ℕ) → IsMember layout.anchor vol → (member_of layout.anchor vol).pages ≤ 2 ^ 32
  pub first : Home
  pub has : HasTags layout.table number first
  pub directory : IsDirectoryAt pages first places
