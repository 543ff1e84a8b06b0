-- Domains that are made.
use Rattle.std.specs.Prelude.{◌≡◌, ◌≢◌, ◌⊎◌, ◌≤◌, ℕ, false, List, [], ◌∷◌, Some, None, min}
use Rattle.std.specs.FinMap.{empty}
use Rattle.domain_layout.specs.domain_base.Limits.{log_pages, min_first_volume_pages}
use Rattle.domain_layout.specs.domain_base.Version.{most_pages, number_of}
use Rattle.domain_layout.specs.domain_base.declared.version.Version.{Version}
use Rattle.domain_layout.specs.volume_disk.Disk.{Disk, MayLeave, volume_pages}
use Rattle.domain_layout.specs.volume_disk.Image.{Image, Places}
use Rattle.domain_layout.specs.volume_disk.Run.{MayLeaveTorn}
use Rattle.domain_layout.specs.disk_label.Anchor.{Counts, IsAnchor, IsNext, volume_of}
use Rattle.domain_layout.specs.disk_label.Body.{no_member}
use Rattle.domain_layout.specs.disk_label.FirstPages.{first_pages}
use Rattle.domain_layout.specs.disk_label.Slot.{IsGateOf, IsReady, IsReadyFor}
use Rattle.domain_layout.specs.disk_label.declared.anchor.Anchor.{Anchor}
use Rattle.domain_layout.specs.log_ring.Groups.{HasLog, pages_in}
use Rattle.domain_layout.specs.log_recovery.Members.{label_version}
use Rattle.domain_layout.specs.log_recovery.Outcome.{HasGoodAnchor}
use Rattle.domain_layout.specs.Reached.{Frame}
use Rattle.domain_layout.specs.Read.{Means}
use Rattle.domain_layout.specs.NewDomain.{IsNew}

-- the pages of volume 1 that a domain of this version uses
abbrev pub pages_in_use : Version → List ℕ → ℕ
pages_in_use version sizes = min (volume_pages sizes 1) (most_pages version)

-- the anchor of a domain that was just made on a volume with this number of used pages
abbrev pub new_anchor : Version → ℕ → Anchor
new_anchor version pages = record {
  number = 1;
  version = number_of version;
  log_vol = 1;
  log_page = (first_pages version pages).log;
  log_pages = log_pages;
  start = 0;
  group = 1;
  table = Some (record { vol = 1; page = (first_pages version pages).table });
  members =
      record { pages = pages; state = 1 } ∷ no_member ∷ no_member ∷ no_member ∷ no_member
      ∷ no_member ∷ no_member ∷ no_member ∷ [];
  slot = 0;
}

-- the first volume is large enough for a domain
abbrev pub IsLarge : List ℕ → Type 0
IsLarge sizes = min_first_volume_pages ≤ volume_pages sizes 1

-- the anchor of a domain that was just made, with its version
abbrev pub new_frame : Version → ℕ → Frame
new_frame version pages = record { anchor = new_anchor version pages; version = version }

-- an image is that of an empty domain with this anchor: recovery takes the anchor and no group
-- after it, the label of the first volume says its version, the pages are those of a domain that
-- was just made, and the image means no fileset
pub record IsEmptyDomain (sizes : List ℕ) (anchor : Anchor) (image : Image) : Type 0 where
  pub good : HasGoodAnchor sizes image anchor
  pub log : HasLog sizes anchor [] image
  pub version : Version
  pub is_version : anchor.version ≡ number_of version
  pub label : label_version image 1 ≡ version
  pub fresh : IsNew (pages_in image) (record { anchor = anchor; version = version })
  pub means : Means sizes image empty

-- no image that a stop might leave now has an anchor that counts on a volume but the first
abbrev pub HasNoOtherAnchor : Disk → Type 0
HasNoOtherAnchor disk =
    (image : Image) → MayLeave disk.now image
    → (place : ℕ) → volume_of place ≢ 1 → ¬ Counts disk.sizes image place

-- the bytes of the first volume
abbrev pub IsOnFirst : Places
IsOnFirst v k = v ≡ 1

-- a domain was just made on the first volume, with this anchor
pub record IsMade (disk : Disk) (anchor : Anchor) : Type 0 where
  -- it is empty, as a read gives it
  pub contents : IsEmptyDomain disk.sizes anchor disk.now.contents
  -- and on each image that a stop may leave
  pub images : (image : Image) → MayLeave disk.now image → IsEmptyDomain disk.sizes anchor image
  -- nothing is pending there
  pub synced : (k : ℕ) → disk.now.unsynced 1 k ≡ false
  -- the next anchor finds its slot ready
  pub next : (next : Anchor) → IsNext (Some anchor) next → next.log_vol ≡ 1
      → IsReadyFor disk (Some anchor) next

-- both slots of the first volume are ready for the first anchor of all, as on a volume of zeros
abbrev pub AreSlotsReady : Disk → Type 0
AreSlotsReady disk = IsReady disk None 1 0 × IsReady disk None 1 1

-- an image has no anchor that counts, or is the empty domain
abbrev pub IsNoneOrEmpty : List ℕ → Version → ℕ → Image → Type 0
IsNoneOrEmpty sizes version pages image =
    IsAnchor sizes image None ⊎ IsEmptyDomain sizes (new_anchor version pages) image

-- or it is one that a stop might have left at the start, but for the gates of the first volume: no
-- page is overwritten while an anchor of before counts
abbrev pub IsBeforeNoneOrEmpty : Disk → Version → ℕ → Image → Type 0
IsBeforeNoneOrEmpty old version pages image =
    MayLeaveTorn (IsGateOf 1) old.now image ⊎ IsNoneOrEmpty old.sizes version pages image
