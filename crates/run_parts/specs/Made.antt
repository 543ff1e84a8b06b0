-- How making a domain ends.
use Rattle.std.specs.Prelude.{◌≡◌, ◌⊎◌, ◌==◌, ◌<◌, ℕ, Bool, true, false, Option, Some, None}
use Rattle.std.specs.List.{list_all}
use Rattle.domain_faults.specs.domain_base.Limits.{min_first_volume_pages}
use Rattle.domain_faults.specs.domain_base.declared.version.Version.{Version}
use Rattle.domain_faults.specs.volume_disk.Disk.{Disk, Tells, volume_pages}
use Rattle.domain_faults.specs.volume_disk.Image.{Image, page_at}
use Rattle.domain_faults.specs.volume_disk.Run.{OnlyReads}
use Rattle.domain_faults.specs.disk_label.Fault.{HasSlotCause}
use Rattle.domain_faults.specs.disk_label.declared.fault.SlotFault.TheVariants.{Read, Write}
use Rattle.domain_making.specs.Making.{IsMade, new_anchor, pages_in_use}
use Rattle.domain_making.specs.declared.fault.MakeFault.{MakeFault}
use Rattle.domain_making.specs.declared.fault.MakeFault.TheVariants as fault
use Rattle.run_parts.specs.declared.status.Status.{Status}
use Rattle.run_parts.specs.declared.status.Status.TheVariants as status

-- the status if no domain is made
abbrev pub status_of_make_fault : MakeFault → Status
status_of_make_fault (fault.VolumeSmall pages) = status.VolumeSmall pages
status_of_make_fault (fault.Fault vol) = status.VolumeFault vol
status_of_make_fault fault.OutOfMemory = status.OutOfMemory

-- ** What the volume holds

-- all bytes of a page of the first volume are zero
abbrev pub is_zero_page : Image → ℕ → Bool
is_zero_page image page = list_all (λ byte. byte == 0) (page_at image 1 page)

-- those of its first pages are
abbrev pub AreZeroPages : ℕ → Image → Type 0
AreZeroPages pages image = (page : ℕ) → page < pages → is_zero_page image page ≡ true

-- this page is the first that has another byte
abbrev pub IsFirstUsed : ℕ → Image → Type 0
IsFirstUsed page image = AreZeroPages page image × (is_zero_page image page ≡ false)

-- the first page with another byte, of those that each domain uses on its first volume
abbrev pub FindsUsed : Disk → Option ℕ → Type 0
FindsUsed disk None = Tells disk → AreZeroPages min_first_volume_pages disk.now.contents
FindsUsed disk (Some page) =
    (page < min_first_volume_pages) × (Tells disk → IsFirstUsed page disk.now.contents)

-- ** How making ends

-- before anything is written, the volume is read, unless it may be overwritten
abbrev pub WritesNone : Bool → Disk → Disk → Type 0
WritesNone true old new = new ≡ old
WritesNone false old new = OnlyReads old new

-- why it is not written to: it holds something, or its read failed
abbrev pub Refuses : Disk → Disk → Status → Type 0
Refuses old new (status.Occupied page) = FindsUsed old (Some page)
Refuses old new (status.VolumeFault vol) = HasSlotCause old new (Read vol)
Refuses old new other = ⊥

-- the empty domain is there, if the rack tells what it holds; the volume is too small, and nothing
-- was done; one call failed of the volume that is named, and no other; it holds something at a
-- page, and may not be overwritten; or nothing was written for want of memory
abbrev pub MakeEnds : Version → Bool → Disk → Disk → Status → Type 0
MakeEnds version overwrites old new status.Ok =
    Tells old → IsMade new (new_anchor version (pages_in_use version old.sizes))
MakeEnds version overwrites old new (status.VolumeSmall pages) =
    (pages ≡ volume_pages old.sizes 1) × (pages < min_first_volume_pages) × (new ≡ old)
MakeEnds version overwrites old new (status.VolumeFault vol) =
    HasSlotCause old new (Read vol) ⊎ HasSlotCause old new (Write vol)
MakeEnds version overwrites old new (status.Occupied page) =
    (overwrites ≡ false) × OnlyReads old new × FindsUsed old (Some page)
MakeEnds version overwrites old new status.OutOfMemory = WritesNone overwrites old new
MakeEnds version overwrites old new other = ⊥

-- a volume that may not be overwritten is only read, or has zeros on the pages that each domain
-- uses
abbrev pub Guards : Bool → Disk → Disk → Type 0
Guards true old new = Unit {0}
Guards false old new = OnlyReads old new ⊎ FindsUsed old None

-- if the first volume is too small for a domain, the status says that and nothing else
abbrev pub TellsOfSmall : Disk → Status → Type 0
TellsOfSmall disk end =
    let pages = volume_pages disk.sizes 1 in
    pages < min_first_volume_pages → end ≡ status.VolumeSmall pages
