-- A rack from which memory was brought, and on which the log is settled then.
use Rattle.std.proofs.Common.{◌≡◌, ◌∙◌, ◌⊎◌, ℕ, List, inl, inr, sym, subst, ⊎_elim}
use Rattle.attached_domain.specs.volume_disk.Disk.{Disk, MayLeave, Moment, Tells}
use Rattle.attached_domain.specs.volume_disk.Image.{Image, NoPlace}
use Rattle.attached_domain.specs.volume_disk.Run.{OnlyReads, Touches}
use Rattle.attached_domain.proofs.OfVolumeDisk.Laws.{only_reads-leaves, then_on, touches-then, weaker}
use Rattle.attached_domain.specs.log_recovery.declared.redone.Redone.{Redone}
use Rattle.attached_domain.specs.log_recovery.Settling.{ReadsAs}
use Rattle.attached_domain.specs.declared.unfit.Unfit.{Unfit}
use Rattle.domain_attaching.specs.Attaching.{HasCause, IfNotADomain, IfNotFit, IfNotSettled}
use Rattle.domain_attaching.specs.Settling.{HasNoGroups, IfRefused, IsNotSettled, IsRecovered, StaysReadSince, WritesNone}
use Rattle.domain_attaching.specs.declared.fault.AttachFault.{AttachFault}
use Rattle.domain_attaching.specs.declared.fault.AttachFault.TheVariants.{Fault, NotADomain, NotSettled, OutOfMemory, Unfit as NotFit}
use Rattle.domain_attaching.proofs.Rested.{had_none, settle_cause_since}

-- what is read of the start is read, or might have been left at the start, on each image since
pub since_read : (old mid new : Disk) → OnlyReads old mid → StaysReadSince mid new → StaysReadSince old new
since_read old mid new reads stays told first pages was =
    let P : Image → Type 0 = λ image. MayLeave old.now image ⊎ ReadsAs old.sizes first pages image in
    let there : ReadsAs mid.sizes first pages mid.now.contents = subst (λ (l : List ℕ). ReadsAs l first pages mid.now.contents) (sym reads.touches.sizes) (subst (λ (m : Moment). ReadsAs old.sizes first pages m.contents) (sym (reads.now told)) was) in
    then_on old mid new P (only_reads-leaves old mid P told reads (λ image left. inl left))
    (weaker mid new (λ image. MayLeave mid.now image ⊎ ReadsAs mid.sizes first pages image) P
    (λ image is. ⊎_elim (λ left. inl (subst (λ (m : Moment). MayLeave m image) (reads.now told) left)) (λ reads_so. inr (subst (λ (l : List ℕ). ReadsAs l first pages image) reads.touches.sizes reads_so)) is)
    (stays (reads.touches.told ∙ told) first pages there))

-- nothing is written if the log had no group
pub writes_none : (old mid new : Disk) (found : Redone) → OnlyReads old mid → (Tells old → IsRecovered old.sizes old.now.contents found) → (HasNoGroups found → Touches mid new NoPlace) → WritesNone old new
writes_none old mid new found reads recovered none told anchor log = touches-then old mid new NoPlace reads.touches (none (had_none old.sizes old.now.contents anchor found log (recovered told)))

-- ---- faults

pub refused_if : (fault : AttachFault) (P : Type 0) → P → IfRefused fault P
refused_if (NotADomain vol at) P is = is
refused_if (Fault vol) P is = is
refused_if (NotFit why) P is = is
refused_if (NotSettled why) P is = tt
refused_if OutOfMemory P is = is

pub not_refused : (old new : Disk) (fault : AttachFault) (P : Type 0) → IsNotSettled old new fault → IfRefused fault P
not_refused old new fault P is = subst (λ (f : AttachFault). IfRefused f P) (sym is.1) tt

pub not_wrong : (old new : Disk) (fault : AttachFault) (P : ℕ → ℕ → Type 0) → IsNotSettled old new fault → IfNotADomain fault P
not_wrong old new fault P is = subst (λ (f : AttachFault). IfNotADomain f P) (sym is.1) tt

pub not_unfit : (old new : Disk) (fault : AttachFault) (P : Unfit → Type 0) → IsNotSettled old new fault → IfNotFit fault P
not_unfit old new fault P is = subst (λ (f : AttachFault). IfNotFit f P) (sym is.1) tt

pub whole_if : (fault : AttachFault) (P : Type 0) → P → IfNotSettled fault P
whole_if (NotADomain vol at) P is = tt
whole_if (Fault vol) P is = tt
whole_if (NotFit why) P is = tt
whole_if (NotSettled why) P is = is
whole_if OutOfMemory P is = tt

pub settled_first : (fault : AttachFault) (P : Type 0) → IfNotSettled fault ⊥ → IfNotSettled fault P
settled_first (NotADomain vol at) P none = tt
settled_first (Fault vol) P none = tt
settled_first (NotFit why) P none = tt
settled_first (NotSettled why) P none = absurd none
settled_first OutOfMemory P none = tt

pub settle_cause : (old mid new : Disk) (fault : AttachFault) → OnlyReads old mid → mid.read_faults ≡ old.read_faults → IsNotSettled mid new fault → HasCause old new fault
settle_cause old mid new fault reads passed is = subst (HasCause old new) (sym is.1) (settle_cause_since old mid new is.0 reads.touches passed reads.write_faults is.2)
