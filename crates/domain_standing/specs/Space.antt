-- The free space and the free cells of a domain, as its pages say them.
use Rattle.std.specs.Prelude.{◌≡◌, ◌<◌, ◌≤◌, ◌↔◌, ℕ, true, false, [], Contains, Option, Some, None, IsSomeAnd}
use Rattle.std.specs.FinSet.{contains}
use Rattle.fileset_shapes.specs.domain_base.Version.{most_pages}
use Rattle.fileset_shapes.specs.domain_base.declared.place.CellAt.{CellAt}
use Rattle.fileset_shapes.specs.page_store.Pages.{Pages}
use Rattle.fileset_shapes.specs.disk_label.declared.anchor.Anchor.{Anchor}
use Rattle.fileset_shapes.specs.log_ring.Homes.{IsMember, member_of}
use Rattle.fileset_shapes.specs.metadata_cells.CellPage.{home_of, is_free_in}
use Rattle.fileset_shapes.specs.free_cells.Cells.{Cells, is_closed, is_free, table_of}
use Rattle.fileset_shapes.specs.free_space.Spaces.{Spaces, volume_of}
use Rattle.fileset_shapes.specs.free_space.VolumeSpace.{VolumeSpace}
use Rattle.fileset_shapes.specs.domain_layout.Layout.{Layout}
use Rattle.fileset_shapes.specs.domain_layout.Owners.{IsOwned}

-- pages and cells of the volume may be taken
abbrev pub IsOpen : Anchor → ℕ → Type 0
IsOpen anchor vol = (member_of anchor vol).state ≡ 1

-- of a volume's pages those are free that belong to no owner, and none waits
pub record IsVolumeSpace (pages : Pages) (layout : Layout) (vol : ℕ) (space : VolumeSpace) : Type 0
  where
    pub count : space.pages ≡ (member_of layout.anchor vol).pages
    pub opened : (space.is_open ≡ true) ↔ IsOpen layout.anchor vol
    pub free : (page : ℕ) → page < space.pages → (contains space.used page ≡ false)
        ↔ ¬ IsOwned pages layout (record { vol = vol; page = page })
    pub settled : space.waiting ≡ []

-- the free space of a volume, which is there where it is a member
abbrev pub IsSpaceAt : Pages → Layout → ℕ → Option VolumeSpace → Type 0
IsSpaceAt pages layout vol None = ¬ IsMember layout.anchor vol
IsSpaceAt pages layout vol (Some space) =
    IsMember layout.anchor vol × IsVolumeSpace pages layout vol space

-- and of all volumes
abbrev pub IsSpaceOf : Pages → Layout → Spaces → Type 0
IsSpaceOf pages layout space =
    (vol : ℕ) → 1 ≤ vol → IsSpaceAt pages layout vol (volume_of space vol)

-- a cell of the kind of a free one stands there, on a page of its volume's table
pub record IsFreeAt (pages : Pages) (layout : Layout) (at : CellAt) : Type 0 where
  pub member : IsMember layout.anchor at.vol
  pub table : Contains (layout.cells at.vol) at.page
  pub within : at.cell < 28
  pub free : IsSomeAnd (pages (home_of at)) (λ page. is_free_in page at.cell ≡ true)

-- the tables of cells of all members with their free cells; those of closed members are not handed
-- out
pub record AreCellsOf (pages : Pages) (layout : Layout) (cells : Cells) : Type 0 where
  pub tables : (vol : ℕ) → IsMember layout.anchor vol → table_of cells vol ≡ layout.cells vol
  pub others : (vol : ℕ) → ¬ IsMember layout.anchor vol → table_of cells vol ≡ []
  pub closed : (vol : ℕ) → IsMember layout.anchor vol
      → (is_closed cells vol ≡ true) ↔ ¬ IsOpen layout.anchor vol
  pub free : (at : CellAt) → (is_free cells at ≡ true) ↔ IsFreeAt pages layout at

-- no member has more pages than the version allows
abbrev pub AreFew : Layout → Type 0
AreFew layout = (vol : ℕ) → IsMember layout.anchor vol
    → (member_of layout.anchor vol).pages ≤ most_pages layout.version
