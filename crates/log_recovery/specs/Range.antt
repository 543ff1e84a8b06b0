-- Which anchors are in range.
use Rattle.std.specs.Prelude.{◌≡◌, ◌+◌, ◌^◌, ◌<◌, ◌≤◌, ℕ, IsSomeAnd}
use Rattle.log_ring.specs.domain_base.Limits.{log_pages, min_volume_pages}
use Rattle.log_ring.specs.domain_base.Version.{bitmap_pages, most_pages}
use Rattle.log_ring.specs.domain_base.declared.version.Version.{Version}
use Rattle.log_ring.specs.disk_label.Anchor.{IsWhole}
use Rattle.log_ring.specs.disk_label.declared.anchor.Anchor.{Anchor}
use Rattle.log_ring.specs.Homes.{IsMember, member_of}

-- its number, the number of the group at its start, and that start
pub record HasNumbers (anchor : Anchor) : Type 0 where
  pub first : 1 ≤ anchor.number
  pub number : anchor.number < 2 ^ 63
  pub group : anchor.group < 2 ^ 63
  pub start : anchor.start < log_pages
  pub pages : anchor.log_pages ≡ log_pages

-- a volume has a known state. A member has at least the pages that a volume must have, and at most
-- those that the version of its label allows.
pub record IsSized (version : Version) (anchor : Anchor) (vol : ℕ) : Type 0 where
  pub state : (member_of anchor vol).state ≤ 2
  pub least : IsMember anchor vol → min_volume_pages ≤ (member_of anchor vol).pages
  pub most : IsMember anchor vol → (member_of anchor vol).pages ≤ most_pages version

-- each volume below this one is sized so
abbrev pub AreSizedBelow : ℕ → (ℕ → Version) → Anchor → Type 0
AreSizedBelow n versions anchor =
    (vol : ℕ) → 1 ≤ vol → vol < n → IsSized (versions vol) anchor vol

-- the log lies within its volume, after the label, the anchors and the bitmap
pub record IsLogInside (version : Version) (anchor : Anchor) : Type 0 where
  pub within : anchor.log_page + log_pages ≤ (member_of anchor anchor.log_vol).pages
  pub behind : 2 + bitmap_pages version (member_of anchor anchor.log_vol).pages ≤ anchor.log_page

-- the table of filesets is a page of a member
abbrev pub IsTableInside : Anchor → Type 0
IsTableInside anchor =
    IsSomeAnd anchor.table
    (λ home. IsMember anchor home.vol × (home.page < (member_of anchor home.vol).pages))

-- an anchor is in range, if its members have labels of these versions: it may be written, its
-- numbers are in their ranges, so are its members, and the log and the table lie within their
-- volumes
pub record IsInRange (versions : ℕ → Version) (anchor : Anchor) : Type 0 where
  pub whole : IsWhole anchor
  pub numbers : HasNumbers anchor
  pub sized : AreSizedBelow 9 versions anchor
  pub log : IsLogInside (versions anchor.log_vol) anchor
  pub table : IsTableInside anchor
