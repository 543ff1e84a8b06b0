-- Pages of metadata that are brought from a rack to those that are there.
use Rattle.std.specs.Prelude.{◌≡◌, ◌⊎◌, ◌<◌, ◌≤◌, ℕ, List, length, Some, None, IfSome, IsSome, Result, Ok, Err}
use Rattle.slot_files.specs.domain_base.Limits.{max_volume_pages_4}
use Rattle.slot_files.specs.domain_base.declared.place.Home.{Home}
use Rattle.slot_files.specs.page_store.Pages.{Pages}
use Rattle.slot_files.specs.log_ring.Images.{image_at}
use Rattle.slot_files.specs.volume_disk.Disk.{Disk, Tells, raised_at, volume_pages}
use Rattle.slot_files.specs.volume_disk.Run.{OnlyReads}
use Rattle.slot_files.specs.fileset_table.Table.{Table}
use Rattle.slot_files.specs.log_ring.Groups.{Group, images_of, pages_in}
use Rattle.slot_files.specs.log_ring.Homes.{IsMember}
use Rattle.slot_files.specs.domain_layout.Reached.{Frame, IsWithin, MayBe, Reaches, Way, cells_way, first_cells, tags_way}
use Rattle.slot_files.specs.domain_layout.TagRules.{HasTags}
use Rattle.slot_files.specs.domain_layout.Looks.{IsLookedAt}
use Rattle.slot_files.specs.page_ways.Walk.{unread_of}
use Rattle.slot_files.specs.page_ways.declared.walk.PageWalk.{PageWalk}
use Rattle.image_loading.specs.declared.fault.LoadFault.{LoadFault}
use Rattle.image_loading.specs.declared.fault.LoadFault.TheVariants.{Fault, OutOfMemory}

-- ** What is brought

-- a page of a volume of a rack
pub record IsOnRack (sizes : List ℕ) (home : Home) : Type 0 where
  pub first : 1 ≤ home.vol
  pub last : home.vol ≤ length sizes
  pub within : home.page < volume_pages sizes home.vol
  pub limit : home.page < max_volume_pages_4

-- calls only read the rack, and add pages: each that was there is as it was, and another is not
-- there, or as the rack has it
pub record Brings (old new : Disk) (before after : Pages) : Type 0 where
  pub reads : OnlyReads old new
  pub kept : (home : Home) → IsSome (before home) → after home ≡ before home
  pub added : Tells old → (home : Home) → before home ≡ None
      → (after home ≡ None) ⊎ (after home ≡ pages_in old.now.contents home)

-- at Ok no read has failed, and at a fault one of the volume that it names, and no other
abbrev pub NamesCause : {T : Type 0} → Disk → Disk → Result T LoadFault → Type 0
NamesCause old new (Ok _) = new.read_faults ≡ old.read_faults
NamesCause old new (Err (Fault vol)) = new.read_faults ≡ raised_at old.read_faults vol
NamesCause old new (Err OutOfMemory) = new.read_faults ≡ old.read_faults

-- pages are the images of groups of a log
abbrev pub AreImagesOf : List Group → Pages → Type 0
AreImagesOf groups pages = (home : Home) → pages home ≡ image_at home (images_of groups)

-- ** What is there

-- each page of a kind that is come to, and that tables may have, is there
abbrev pub HasWay : Pages → Frame → Way → Type 0
HasWay pages frame way = (passed : List Home) (home : Home) → Reaches pages frame way passed home
    → MayBe frame home → IsSome (pages home)

-- on a walk: what could not be read was there, or may be no page of tables
abbrev pub HasUnread : Pages → Frame → PageWalk → Type 0
HasUnread pages frame walk =
    IfSome (unread_of walk) (λ home. MayBe frame home → IsSome (pages home))

-- the page of the fileset table, if it is one of a member
abbrev pub HasTablePage : Pages → Frame → Type 0
HasTablePage pages frame = (home : Home) → frame.anchor.table ≡ Some home → IsWithin frame home
    → IsSome (pages home)

-- the pages of the bitmap of a volume, if they are a member's; and of each volume below one
abbrev pub HasBitmap : Pages → Frame → ℕ → Type 0
HasBitmap pages frame vol = (page : ℕ) → 2 ≤ page → page < first_cells frame vol
    → IsWithin frame (record { vol = vol; page = page })
    → IsSome (pages (record { vol = vol; page = page }))

-- the bitmaps of the volumes below a number are there
abbrev pub HasBitmapsBelow : ℕ → Pages → Frame → Type 0
HasBitmapsBelow n pages frame = (vol : ℕ) → vol < n → HasBitmap pages frame vol

-- the pages of cells of a volume, if it is a member; and of each below one
abbrev pub HasCellsOf : Pages → Frame → ℕ → Type 0
HasCellsOf pages frame vol = IsMember frame.anchor vol → HasWay pages frame (cells_way frame vol)

abbrev pub HasCellsBelow : ℕ → Pages → Frame → Type 0
HasCellsBelow n pages frame = (vol : ℕ) → vol < n → HasCellsOf pages frame vol

-- the pages of the tag directory of what is in a slot of a table; and in each below one
abbrev pub HasTagsOf : Pages → Frame → Table → ℕ → Type 0
HasTagsOf pages frame table number =
    (first : Home) → HasTags table number first → HasWay pages frame (tags_way first)

abbrev pub HasTagsBelow : ℕ → Pages → Frame → Table → Type 0
HasTagsBelow n pages frame table = (number : ℕ) → number < n → HasTagsOf pages frame table number

-- so of each volume, and in each slot
abbrev pub HasBitmaps : Pages → Frame → Type 0
HasBitmaps pages frame = (vol : ℕ) → HasBitmap pages frame vol

-- the pages of cells of all volumes are there
abbrev pub HasCells : Pages → Frame → Type 0
HasCells pages frame = (vol : ℕ) → HasCellsOf pages frame vol

-- the pages of tags of all slots of a table are there
abbrev pub HasTagPages : Pages → Frame → Table → Type 0
HasTagPages pages frame table = (number : ℕ) → HasTagsOf pages frame table number

-- each page at which the rules look is there
abbrev pub HasWhereRulesLook : Pages → Frame → Type 0
HasWhereRulesLook pages frame = (home : Home) → IsLookedAt pages frame home → IsSome (pages home)
