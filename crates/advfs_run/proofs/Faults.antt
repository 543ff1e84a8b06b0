-- Why a run does not begin.
use Rattle.std.proofs.Common.{◌≡◌, inl, inr, sym, subst}
use Rattle.domain_attaching.specs.volume_disk.Disk.{Disk, Tells}
use Rattle.domain_attaching.specs.volume_disk.Run.{OnlyReads}
use Rattle.domain_attaching.proofs.OfVolumeDisk.Laws.{HasRisen-read, HasRisen-write}
use Rattle.domain_attaching.specs.disk_label.declared.fault.SlotFault.TheVariants as slot
use Rattle.domain_attaching.specs.log_recovery.declared.settling_fault.SettleFault.{SettleFault}
use Rattle.domain_attaching.specs.log_recovery.declared.settling_fault.SettleFault.TheVariants as settling
use Rattle.domain_attaching.specs.Attaching.{HasCause, IfNotADomain, IfNotFit, IsUnfitDomain}
use Rattle.domain_attaching.specs.domain_bringing.Fault.{IsNoDomain}
use Rattle.domain_attaching.specs.Settling.{HasSettleCause, IfRefused, StaysReadSince}
use Rattle.domain_attaching.specs.declared.fault.AttachFault.{AttachFault}
use Rattle.domain_attaching.specs.declared.fault.AttachFault.TheVariants as attaching
use Rattle.domain_attaching.specs.attached_domain.declared.unfit.Unfit.{Unfit}
use Rattle.domain_attaching.specs.attached_domain.declared.unfit.Unfit.TheVariants as unfit
use Rattle.run_parts.specs.declared.status.Status.{Status}
use Rattle.advfs_run.specs.Runs.{BeginsNot}
use Rattle.advfs_run.specs.Statuses.{status_of_attach, status_of_settle, status_of_unfit}

module _ (old new : Disk) (stays : StaysReadSince old new) where
  not_settled : (why : SettleFault) → HasSettleCause old new why → BeginsNot old new (status_of_settle why)
  not_settled settling.NoNumbers cause = (cause.1, stays)
  not_settled (settling.Slot (slot.Read vol)) cause = (inl (HasRisen-read old new vol cause.0), stays)
  not_settled (settling.Slot (slot.Write vol)) cause = (inr (HasRisen-write old new vol cause.1), stays)
  not_settled (settling.Write vol) cause = (inr (HasRisen-write old new vol cause), stays)

  not_fit : (why : Unfit) → OnlyReads old new → (Tells old → IsUnfitDomain old.sizes old.now.contents why) → BeginsNot old new (status_of_unfit why)
  not_fit unfit.Cloned reads is = (reads, is)
  not_fit unfit.ReadThrough reads is = (reads, is)
  not_fit unfit.WrongQuotas reads is = (reads, is)
  not_fit unfit.RemovedFile reads is = (reads, is)
  not_fit unfit.CutDirectory reads is = (reads, is)
  not_fit unfit.OutOfMemory reads is = stays

  begins_not : (fault : AttachFault) → HasCause old new fault → IfRefused fault (OnlyReads old new) → IfNotADomain fault (λ vol at. Tells old → IsNoDomain old.sizes old.now.contents vol at)
      → IfNotFit fault (λ why. Tells old → IsUnfitDomain old.sizes old.now.contents why) → BeginsNot old new (status_of_attach fault)
  begins_not (attaching.NotADomain vol at) cause refused wrong fits = (refused, wrong)
  begins_not (attaching.Fault vol) cause refused wrong fits = (inl (HasRisen-read old new vol cause), stays)
  begins_not (attaching.Unfit why) cause refused wrong fits = not_fit why refused fits
  begins_not (attaching.NotSettled why) cause refused wrong fits = not_settled why cause
  begins_not attaching.OutOfMemory cause refused wrong fits = stays

  pub begins_with : (fault : AttachFault) (end : Status) → end ≡ status_of_attach fault → HasCause old new fault → IfRefused fault (OnlyReads old new)
      → IfNotADomain fault (λ vol at. Tells old → IsNoDomain old.sizes old.now.contents vol at) → IfNotFit fault (λ why. Tells old → IsUnfitDomain old.sizes old.now.contents why) → BeginsNot old new end
  begins_with fault end is cause refused wrong fits = subst (λ (e : Status). BeginsNot old new e) (sym is) (begins_not fault cause refused wrong fits)
