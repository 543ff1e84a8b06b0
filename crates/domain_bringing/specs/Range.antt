-- What an anchor says lies within the members.
use Rattle.std.specs.Prelude.{ℕ, ◌+◌, ◌<◌, ◌≤◌, IsSomeAnd}
use Rattle.domain_faults.specs.domain_base.Version.{bitmap_pages, most_pages}
use Rattle.domain_faults.specs.log_recovery.Range.{IsLogInside}
use Rattle.domain_faults.specs.log_ring.Homes.{IsMember, member_of}
use Rattle.domain_faults.specs.domain_layout.Reached.{Frame, IsWithin}

-- a member has no more pages than the version allows, and its bitmap within these
pub record IsSized (frame : Frame) (vol : ℕ) : Type 0 where
  pub most : IsMember frame.anchor vol
      → (member_of frame.anchor vol).pages ≤ most_pages frame.version
  pub bitmap : IsMember frame.anchor vol
      → 2 + bitmap_pages frame.version (member_of frame.anchor vol).pages
      ≤ (member_of frame.anchor vol).pages

-- so has each volume below this one
abbrev pub AreSizedBelow : ℕ → Frame → Type 0
AreSizedBelow n frame = (vol : ℕ) → 1 ≤ vol → vol < n → IsSized frame vol

-- the fileset table is a page of a member
abbrev pub IsTableWithin : Frame → Type 0
IsTableWithin frame = IsSomeAnd frame.anchor.table (IsWithin frame)

-- so are members, the log and the fileset table
pub record IsInRange (frame : Frame) : Type 0 where
  pub sized : AreSizedBelow 9 frame
  pub log : IsLogInside frame.version frame.anchor
  pub table : IsTableWithin frame
