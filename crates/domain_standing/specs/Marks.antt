-- The free space of a domain, as its bitmaps say it.
use Rattle.std.specs.Prelude.{◌≡◌, ◌+◌, ◌*◌, ◌/◌, ◌%◌, ◌<◌, ◌≤◌, ◌==◌, ℕ, Bool, false, [], Option, Some, None, IsSome}
use Rattle.std.specs.FinSet.{contains}
use Rattle.std.specs.Option.{option_map_or}
use Rattle.fileset_shapes.specs.domain_base.Version.{bitmap_pages}
use Rattle.fileset_shapes.specs.domain_base.declared.place.Home.{Home}
use Rattle.fileset_shapes.specs.page_store.Pages.{Pages}
use Rattle.fileset_shapes.specs.free_space.Bits.{is_set}
use Rattle.fileset_shapes.specs.log_ring.Homes.{IsMember, member_of}
use Rattle.fileset_shapes.specs.free_space.Spaces.{Spaces, volume_of}
use Rattle.fileset_shapes.specs.free_space.VolumeSpace.{VolumeSpace}
use Rattle.fileset_shapes.specs.domain_layout.Reached.{Frame}
use Rattle.fileset_shapes.specs.free_cells.Marks.{bitmap_home, is_marked}

-- the pages of a member's bitmap are there
abbrev pub HasBitmaps : Pages → Frame → Type 0
HasBitmaps pages frame = (vol page : ℕ) → IsMember frame.anchor vol
    → page < (member_of frame.anchor vol).pages → IsSome (pages (bitmap_home vol page))

-- of a volume's pages those are used whose bit is 1, and none waits
pub record IsMarkedVolume (pages : Pages) (frame : Frame) (vol : ℕ) (space : VolumeSpace) : Type 0
  where
    pub count : space.pages ≡ (member_of frame.anchor vol).pages
    pub opened : space.is_open ≡ ((member_of frame.anchor vol).state == 1)
    pub used : (page : ℕ) → page < space.pages
        → contains space.used page ≡ is_marked pages vol page
    pub settled : space.waiting ≡ []

-- the free space of a volume, which is there where it is a member
abbrev pub IsMarkedAt : Pages → Frame → ℕ → Option VolumeSpace → Type 0
IsMarkedAt pages frame vol None = ¬ IsMember frame.anchor vol
IsMarkedAt pages frame vol (Some space) =
    IsMember frame.anchor vol × IsMarkedVolume pages frame vol space

-- and of all volumes
abbrev pub IsMarked : Pages → Frame → Spaces → Type 0
IsMarked pages frame space =
    (vol : ℕ) → 1 ≤ vol → IsMarkedAt pages frame vol (volume_of space vol)
