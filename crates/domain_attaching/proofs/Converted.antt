-- Faults of bringing, and why a domain is unfit, as faults of attaching.
use Rattle.std.proofs.Common.{◌≡◌, ℕ}
use Rattle.attached_domain.specs.page_store.Pages.{Pages}
use Rattle.attached_domain.specs.volume_disk.Disk.{Disk}
use Rattle.attached_domain.specs.domain_layout.Reached.{Frame}
use Rattle.attached_domain.specs.Causes.{HasCause as HasUnfitCause, IsUnfit}
use Rattle.attached_domain.specs.declared.unfit.Unfit.{Unfit}
use Rattle.attached_domain.specs.declared.unfit.Unfit.TheVariants as fitting
use Rattle.domain_bringing.specs.Fault.{HasCause as HasCauseThere, IfNotADomain as IfNotADomainThere}
use Rattle.domain_bringing.specs.declared.fault.BringFault.{BringFault}
use Rattle.domain_bringing.specs.declared.fault.BringFault.TheVariants as bringing
use Rattle.domain_attaching.specs.Attaching.{HasCause, IfNotADomain, IfNotFit, IfNotSettled, of_bringing, of_unfit}

pub no_domain_too : (fault : BringFault) (P : ℕ → ℕ → Type 0) → IfNotADomainThere fault P → IfNotADomain (of_bringing fault) P
no_domain_too (bringing.NotADomain vol at) P is = is
no_domain_too (bringing.Fault vol) P is = tt
no_domain_too bringing.OutOfMemory P is = tt

pub cause_too : (old new : Disk) (fault : BringFault) → HasCauseThere old new fault → HasCause old new (of_bringing fault)
cause_too old new (bringing.NotADomain vol at) is = is
cause_too old new (bringing.Fault vol) is = is
cause_too old new bringing.OutOfMemory is = is

pub fits_too : (fault : BringFault) (P : Unfit → Type 0) → IfNotFit (of_bringing fault) P
fits_too (bringing.NotADomain vol at) P = tt
fits_too (bringing.Fault vol) P = tt
fits_too bringing.OutOfMemory P = tt

pub domain_of_unfit : (why : Unfit) (P : ℕ → ℕ → Type 0) → IfNotADomain (of_unfit why) P
domain_of_unfit fitting.Cloned P = tt
domain_of_unfit fitting.ReadThrough P = tt
domain_of_unfit fitting.WrongQuotas P = tt
domain_of_unfit fitting.RemovedFile P = tt
domain_of_unfit fitting.CutDirectory P = tt
domain_of_unfit fitting.OutOfMemory P = tt

pub cause_of_unfit : (old new : Disk) (why : Unfit) → new.read_faults ≡ old.read_faults → HasCause old new (of_unfit why)
cause_of_unfit old new fitting.Cloned is = is
cause_of_unfit old new fitting.ReadThrough is = is
cause_of_unfit old new fitting.WrongQuotas is = is
cause_of_unfit old new fitting.RemovedFile is = is
cause_of_unfit old new fitting.CutDirectory is = is
cause_of_unfit old new fitting.OutOfMemory is = is

-- want of memory is told as such, and all else has its cause in the pages
pub why_of_unfit : (pages : Pages) (frame : Frame) (why : Unfit) (P : Unfit → Type 0) → IsUnfit pages frame why → (HasUnfitCause pages frame why → P why) → IfNotFit (of_unfit why) P
why_of_unfit pages frame fitting.Cloned P has so = so has
why_of_unfit pages frame fitting.ReadThrough P has so = so has
why_of_unfit pages frame fitting.WrongQuotas P has so = so has
why_of_unfit pages frame fitting.RemovedFile P has so = so has
why_of_unfit pages frame fitting.CutDirectory P has so = so has
why_of_unfit pages frame fitting.OutOfMemory P has so = tt

-- neither tells of a log that was not settled
pub first_there : (fault : BringFault) → IfNotSettled (of_bringing fault) ⊥
first_there (bringing.NotADomain vol at) = tt
first_there (bringing.Fault vol) = tt
first_there bringing.OutOfMemory = tt

pub first_of_unfit : (why : Unfit) → IfNotSettled (of_unfit why) ⊥
first_of_unfit fitting.Cloned = tt
first_of_unfit fitting.ReadThrough = tt
first_of_unfit fitting.WrongQuotas = tt
first_of_unfit fitting.RemovedFile = tt
first_of_unfit fitting.CutDirectory = tt
first_of_unfit fitting.OutOfMemory = tt
