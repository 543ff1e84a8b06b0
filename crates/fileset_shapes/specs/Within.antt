-- Pages that agree on the pages of a domain's members.
use Rattle.std.specs.Prelude.{◌≡◌, ◌+◌, ◌^◌, ◌≤◌, ℕ, Some}
use Rattle.filesets_reading.specs.domain_base.Version.{bitmap_pages}
use Rattle.filesets_reading.specs.domain_base.declared.place.Home.{Home}
use Rattle.filesets_reading.specs.page_store.Pages.{Pages}
use Rattle.filesets_reading.specs.log_ring.Homes.{IsMember, member_of}
use Rattle.filesets_reading.specs.domain_layout.Reached.{Frame, IsWithin}

-- the same stands at each page of a member, whatever stands elsewhere
abbrev pub AgreeWithin : Pages → Pages → Frame → Type 0
AgreeWithin one other frame = (home : Home) → IsWithin frame home → one home ≡ other home

-- the fileset table and the bitmaps stand on pages of members, and no member has more pages than a
-- number of four bytes says
pub record IsInside (frame : Frame) : Type 0 where
  pub table : (home : Home) → frame.anchor.table ≡ Some home → IsWithin frame home
  pub bitmaps : (vol : ℕ) → IsMember frame.anchor vol
      → 2 + bitmap_pages frame.version (member_of frame.anchor vol).pages
      ≤ (member_of frame.anchor vol).pages
  pub small : (vol : ℕ) → IsMember frame.anchor vol → (member_of frame.anchor vol).pages ≤ 2 ^ 32
