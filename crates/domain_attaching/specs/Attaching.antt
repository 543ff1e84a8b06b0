-- The memory of a domain that is brought from a rack, and why it is not.
use Rattle.std.specs.Prelude.{◌≡◌, ℕ, List, Some}
use Rattle.attached_domain.specs.domain_base.declared.place.Home.{Home}
use Rattle.attached_domain.specs.page_store.Pages.{Pages}
use Rattle.attached_domain.specs.volume_disk.Disk.{Disk, raised_at}
use Rattle.attached_domain.specs.volume_disk.Image.{Image}
use Rattle.attached_domain.specs.disk_label.declared.anchor.Anchor.{Anchor}
use Rattle.attached_domain.specs.log_recovery.Outcome.{IsSound}
use Rattle.attached_domain.specs.log_recovery.declared.redone.Redone.{Redone}
use Rattle.attached_domain.specs.fileset_model.Filesets.{FilesetMap}
use Rattle.attached_domain.specs.domain_layout.Read.{Means, ReadsFrom}
use Rattle.attached_domain.specs.domain_layout.Reached.{Frame}
use Rattle.attached_domain.specs.staged_pages.Store.{before_of}
use Rattle.attached_domain.specs.page_ways.Frame.{frame_in}
use Rattle.attached_domain.specs.domain_memory.Memory.{StandsFor}
use Rattle.attached_domain.specs.domain_memory.Staged.{IsSettled, MayGoBack}
use Rattle.attached_domain.specs.domain_memory.declared.memory.DomainMemory.{DomainMemory}
use Rattle.domain_bringing.specs.Brought.{IsBroughtFrom, IsWholeDomain}
use Rattle.domain_bringing.specs.Fault.{IsNoDomain}
use Rattle.domain_bringing.specs.declared.bringing.Brought.{Brought}
use Rattle.domain_bringing.specs.declared.fault.BringFault.{BringFault}
use Rattle.domain_bringing.specs.declared.fault.BringFault.TheVariants as bringing
use Rattle.attached_domain.specs.Causes.{HasCause as HasUnfitCause}
use Rattle.attached_domain.specs.declared.unfit.Unfit.{Unfit}
use Rattle.attached_domain.specs.declared.unfit.Unfit.TheVariants as fitting
use Rattle.domain_attaching.specs.declared.bringing.BroughtMemory.{BroughtMemory}
use Rattle.domain_attaching.specs.declared.fault.AttachFault.{AttachFault}
use Rattle.domain_attaching.specs.declared.fault.AttachFault.TheVariants.{Fault, NotADomain, NotSettled, OutOfMemory, Unfit as NotFit}
use Rattle.domain_attaching.specs.Settling.{HasNoGroups, HasSettleCause, IsRecovered, rested_anchor}

-- ** Why it is not

-- why pages are not brought, and why a domain is not attached, as one of these faults
abbrev pub of_bringing : BringFault → AttachFault
of_bringing (bringing.NotADomain vol at) = NotADomain vol at
of_bringing (bringing.Fault vol) = Fault vol
of_bringing bringing.OutOfMemory = OutOfMemory

-- why a domain that was brought is not attached, as a fault of attaching
abbrev pub of_unfit : Unfit → AttachFault
of_unfit fitting.OutOfMemory = OutOfMemory
of_unfit why = NotFit why

-- a fault has raised the read count of the volume that it names, and no other count of reads; or it
-- has its cause as the log was settled
abbrev pub HasCause : Disk → Disk → AttachFault → Type 0
HasCause old new (Fault vol) = new.read_faults ≡ raised_at old.read_faults vol
HasCause old new (NotSettled why) = HasSettleCause old new why
HasCause old new fault = new.read_faults ≡ old.read_faults

-- a fact of the place at which there is no domain, and one of why a domain is not attached
abbrev pub IfNotADomain : AttachFault → (ℕ → ℕ → Type 0) → Type 0
IfNotADomain (NotADomain vol at) P = P vol at
IfNotADomain fault P = Unit {0}

-- a fact of why a domain without a fault is not attached
abbrev pub IfNotFit : AttachFault → (Unfit → Type 0) → Type 0
IfNotFit (NotFit why) P = P why
IfNotFit fault P = Unit {0}

-- and one of a log that was not settled
abbrev pub IfNotSettled : AttachFault → Type 0 → Type 0
IfNotSettled (NotSettled why) P = P
IfNotSettled fault P = Unit {0}

-- an image has a domain: of its pages, once its log is redone, those that were brought break no
-- rule
pub record HasDomain (sizes : List ℕ) (image : Image) : Type 0 where
  pub pages : Pages
  pub frame : Frame
  pub found : Redone
  pub whole : IsWholeDomain pages frame
  pub anchor : frame.anchor ≡ found.anchor
  pub same : IsBroughtFrom sizes image pages found

-- an image has a domain, and those pages are why it is not attached
pub record IsUnfitDomain (sizes : List ℕ) (image : Image) (why : Unfit) : Type 0 where
  pub domain : HasDomain sizes image
  pub unfit : HasUnfitCause domain.pages domain.frame why

-- an image may be attached as these filesets with this anchor: it means them, none of its places
-- shows first that there is no domain, it has no cause why it is not attached, and what is
-- recovered of it has that anchor and no group, so that nothing has to be settled
pub record IsAttachable (sizes : List ℕ) (image : Image) (anchor : Anchor) (all : FilesetMap)
    : Type 0 where
  pub means : Means sizes image all
  pub is_domain : (vol at : ℕ) → ¬ IsNoDomain sizes image vol at
  pub fits : (why : Unfit) → ¬ IsUnfitDomain sizes image why
  pub rests : (found : Redone) → IsRecovered sizes image found
      → HasNoGroups found × (found.anchor ≡ anchor)

-- ** What it is

-- the pages that were brought have these filesets
abbrev pub HaveFilesets : Brought → FilesetMap → Type 0
HaveFilesets brought all = (home : Home) → brought.frame.anchor.table ≡ Some home
    → ReadsFrom (before_of brought.pages) home all

-- memory is that of a domain with some filesets, whose pages break no rule; no change is laid over
-- it, and one may be taken back; the log that was recovered with it may be settled
pub record IsBroughtMemory (sizes : List ℕ) (found : BroughtMemory) : Type 0 where
  pub all : FilesetMap
  pub stands : StandsFor found.memory all
  pub settled : IsSettled found.memory
  pub back : MayGoBack found.memory
  pub anchor : found.memory.frame.anchor ≡ found.redone.anchor
  pub sound : IsSound sizes found.redone
  pub whole : IsWholeDomain (before_of found.memory.pages) (frame_in found.memory.frame)

-- the pages in memory are those of an image once its log is redone, and break no rule of a domain
-- with the anchor that was recovered; memory's anchor is the one with which that log is at rest
pub record IsReadFrom (sizes : List ℕ) (image : Image) (memory : DomainMemory) : Type 0 where
  pub found : Redone
  pub anchor : memory.frame.anchor ≡ rested_anchor found
  pub same : IsBroughtFrom sizes image (before_of memory.pages) found
  pub whole : IsWholeDomain (before_of memory.pages)
      (record (frame_in memory.frame) { anchor = found.anchor })
