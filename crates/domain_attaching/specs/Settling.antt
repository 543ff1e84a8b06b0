-- What is left of a rack on which a domain is attached.
use Rattle.std.specs.Prelude.{ℕ, List, ◌≡◌, ◌≢◌, ◌⊎◌, ◌==◌, [], IsSome, if◌then◌else◌}
use Rattle.attached_domain.specs.domain_base.declared.place.Home.{Home}
use Rattle.attached_domain.specs.page_store.Pages.{Pages}
use Rattle.attached_domain.specs.volume_disk.Disk.{Disk, MayLeave, Tells, raised_at}
use Rattle.attached_domain.specs.volume_disk.Image.{Image, NoPlace}
use Rattle.attached_domain.specs.volume_disk.Run.{LeavesOnly, Touches}
use Rattle.attached_domain.specs.disk_label.Fault.{HasPassed, HasSlotCause}
use Rattle.attached_domain.specs.disk_label.FirstPages.{anchors_page}
use Rattle.attached_domain.specs.disk_label.declared.anchor.Anchor.{Anchor}
use Rattle.attached_domain.specs.log_ring.Groups.{Group, HasLog, pages_in}
use Rattle.attached_domain.specs.log_recovery.Outcome.{HasRecovered}
use Rattle.attached_domain.specs.log_recovery.Settled.{HasNumbersLeft, settled_anchor}
use Rattle.attached_domain.specs.log_recovery.declared.redone.Redone.{Redone}
use Rattle.attached_domain.specs.log_recovery.Settling.{ReadsAs}
use Rattle.attached_domain.specs.log_recovery.declared.settling_fault.SettleFault.{SettleFault}
use Rattle.attached_domain.specs.log_recovery.declared.settling_fault.SettleFault.TheVariants.{NoNumbers, Slot, Write}
use Rattle.attached_domain.specs.domain_memory.declared.memory.DomainMemory.{DomainMemory}
use Rattle.domain_attaching.specs.declared.fault.AttachFault.{AttachFault}
use Rattle.domain_attaching.specs.declared.fault.AttachFault.TheVariants.{NotSettled}

-- a log was recovered of an image
abbrev pub IsRecovered : List ℕ → Image → Redone → Type 0
IsRecovered sizes image found = (groups : List Group) × HasRecovered sizes image groups found

-- no group was redone
abbrev pub HasNoGroups : Redone → Type 0
HasNoGroups found = found.next_group ≡ found.anchor.group

-- the anchor of a log that is at rest: the one with which it was recovered if it has no group,
-- else the one that settles it
abbrev pub rested_anchor : Redone → Anchor
rested_anchor found =
    if found.next_group == found.anchor.group then found.anchor else settled_anchor found

-- memory, with another anchor
abbrev pub with_anchor : Anchor → DomainMemory → DomainMemory
with_anchor anchor memory = record memory { frame = record memory.frame { anchor = anchor } }

-- each image that is left since is read as what the contents of the start are read as, anchor and
-- pages, unless a stop at the start might have left it
abbrev pub StaysReadSince : Disk → Disk → Type 0
StaysReadSince old new =
    Tells old → (first : Anchor) (pages : Pages)
    → ReadsAs old.sizes first pages old.now.contents
    → LeavesOnly old new
    (λ image. MayLeave old.now image ⊎ ReadsAs old.sizes first pages image)

-- on each image that a stop might leave these pages, those of anchors aside, stand at their homes
abbrev pub StandHome : Disk → Pages → Type 0
StandHome disk pages = (image : Image) → MayLeave disk.now image
    → (home : Home) → IsSome (pages home) → home.page ≢ anchors_page
    → pages home ≡ pages_in image home

-- if the log of the start has no group, nothing is written
abbrev pub WritesNone : Disk → Disk → Type 0
WritesNone old new = Tells old → (anchor : Anchor)
    → HasLog old.sizes anchor [] old.now.contents → Touches old new NoPlace

-- the log of an image has a group, and no numbers are left with which it can be settled
abbrev pub HasNoNumbers : List ℕ → Image → Type 0
HasNoNumbers sizes image = (found : Redone)
    × IsRecovered sizes image found × (¬ HasNoGroups found) × (¬ HasNumbersLeft found)

-- so is the log that a rack has, if it tells that
abbrev pub LacksNumbers : Disk → Type 0
LacksNumbers disk = Tells disk → HasNoNumbers disk.sizes disk.now.contents

-- why a log was not settled: it has no numbers left, and then no call has failed; or a call failed
-- of the volume that is named, and the count of that has risen
abbrev pub HasSettleCause : Disk → Disk → SettleFault → Type 0
HasSettleCause old new NoNumbers = HasPassed old new × LacksNumbers old
HasSettleCause old new (Slot fault) = HasSlotCause old new fault
HasSettleCause old new (Write vol) = new.write_faults ≡ raised_at old.write_faults vol

-- that is why a domain was not attached
abbrev pub IsNotSettled : Disk → Disk → AttachFault → Type 0
IsNotSettled old new fault =
    (why : SettleFault) × (fault ≡ NotSettled why) × HasSettleCause old new why

-- it was refused ahead of that
abbrev pub IfRefused : AttachFault → Type 0 → Type 0
IfRefused (NotSettled why) P = Unit {0}
IfRefused fault P = P
