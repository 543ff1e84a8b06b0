-- The statuses of runs over a domain.
use Rattle.domain_attaching.specs.attached_domain.declared.unfit.Unfit.{Unfit}
use Rattle.domain_attaching.specs.attached_domain.declared.unfit.Unfit.TheVariants as unfit
use Rattle.domain_attaching.specs.disk_label.declared.fault.SlotFault.TheVariants as slot
use Rattle.domain_attaching.specs.log_recovery.declared.settling_fault.SettleFault.{SettleFault}
use Rattle.domain_attaching.specs.log_recovery.declared.settling_fault.SettleFault.TheVariants as settling
use Rattle.domain_attaching.specs.domain_making.declared.fault.MakeFault.{MakeFault}
use Rattle.domain_attaching.specs.domain_making.declared.fault.MakeFault.TheVariants as making
use Rattle.domain_attaching.specs.declared.fault.AttachFault.{AttachFault}
use Rattle.domain_attaching.specs.declared.fault.AttachFault.TheVariants as attaching
use Rattle.run_parts.specs.declared.status.Status.{Status}
use Rattle.run_parts.specs.declared.status.Status.TheVariants.{NotADomain, OutOfMemory, Unfit as IsUnfit, VolumeFault, VolumeSmall}
use Rattle.run_parts.specs.declared.status.Unattached.TheVariants as why

abbrev pub status_of_unfit : Unfit → Status
status_of_unfit unfit.Cloned = IsUnfit why.Cloned
status_of_unfit unfit.ReadThrough = IsUnfit why.ReadThrough
status_of_unfit unfit.WrongQuotas = IsUnfit why.WrongQuotas
status_of_unfit unfit.RemovedFile = IsUnfit why.RemovedFile
status_of_unfit unfit.CutDirectory = IsUnfit why.CutDirectory
status_of_unfit unfit.OutOfMemory = OutOfMemory

abbrev pub status_of_settle : SettleFault → Status
status_of_settle settling.NoNumbers = IsUnfit why.NoNumbers
status_of_settle (settling.Slot (slot.Read vol)) = VolumeFault vol
status_of_settle (settling.Slot (slot.Write vol)) = VolumeFault vol
status_of_settle (settling.Write vol) = VolumeFault vol

abbrev pub status_of_attach : AttachFault → Status
status_of_attach (attaching.NotADomain vol at) = NotADomain vol at
status_of_attach (attaching.Fault vol) = VolumeFault vol
status_of_attach (attaching.Unfit why) = status_of_unfit why
status_of_attach (attaching.NotSettled why) = status_of_settle why
status_of_attach attaching.OutOfMemory = OutOfMemory

abbrev pub status_of_make : MakeFault → Status
status_of_make (making.VolumeSmall pages) = VolumeSmall pages
status_of_make (making.Fault vol) = VolumeFault vol
status_of_make making.OutOfMemory = OutOfMemory
