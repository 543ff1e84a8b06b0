-- The ring of a log: 128 pages of a volume. Its places are counted on without end, and stand on
-- these pages in turn, so that a run of places may wrap.
use Rattle.std.specs.Prelude.{◌+◌, ◌*◌, ◌%◌, ◌<◌, ◌≤◌, ℕ, List, length}
use Rattle.disk_label.specs.domain_base.Limits.{log_pages, max_volume_pages_4, max_volumes, page_bytes}
use Rattle.disk_label.specs.volume_disk.Disk.{volume_pages}
use Rattle.disk_label.specs.volume_disk.Gate.{IsOpenAt}
use Rattle.disk_label.specs.volume_disk.Image.{Image, IsIn, Places, page_at}
use Rattle.disk_label.specs.declared.anchor.Anchor.{Anchor}

-- the page of a place, and its first byte
abbrev pub ring_page : Anchor → ℕ → ℕ
ring_page anchor place = anchor.log_page + place % log_pages

-- the first byte of a place of the ring
abbrev pub ring_byte : Anchor → ℕ → ℕ
ring_byte anchor place = page_bytes * ring_page anchor place

-- the bytes of the ring's pages
abbrev pub IsOnLog : Anchor → Places
IsOnLog anchor = IsIn anchor.log_vol (page_bytes * anchor.log_page) (page_bytes * log_pages)

-- the bytes of the n places from this one on
abbrev pub IsOnPlaces : Anchor → ℕ → ℕ → Places
IsOnPlaces anchor place n v k =
    (i : ℕ) × (i < n) × IsIn anchor.log_vol (ring_byte anchor (place + i)) page_bytes v k

-- what stands at a place
abbrev pub place_at : Image → Anchor → ℕ → List ℕ
place_at image anchor place = page_at image anchor.log_vol (ring_page anchor place)

-- the gate at a place is open
abbrev pub IsGateOpen : Image → Anchor → ℕ → Type 0
IsGateOpen image anchor place = IsOpenAt image anchor.log_vol (ring_byte anchor place)

-- the ring lies on a volume of a rack, after its label and anchors
pub record IsRing (sizes : List ℕ) (anchor : Anchor) : Type 0 where
  pub first_volume : 1 ≤ anchor.log_vol
  pub last_volume : anchor.log_vol ≤ length sizes
  pub few_volumes : anchor.log_vol ≤ max_volumes
  pub behind : 2 ≤ anchor.log_page
  pub within : anchor.log_page + log_pages ≤ volume_pages sizes anchor.log_vol
  pub limit : anchor.log_page + log_pages ≤ max_volume_pages_4
