-- Which call has failed, as bringing says it.
use Rattle.std.proofs.Common.{◌≡◌, ◌∙◌, inl, ℕ, List, Result, Ok, Err, IfErr, sym, subst}
use Rattle.domain_faults.specs.volume_disk.Disk.{Disk, Moment, Tells, raised_at}
use Rattle.domain_faults.specs.volume_disk.Run.{OnlyReads}
use Rattle.domain_faults.specs.log_ring.Groups.{Group}
use Rattle.domain_faults.specs.log_recovery.Fault.{HasCause as IsCause, IfNotADomain as IfNone}
use Rattle.domain_faults.specs.log_recovery.Outcome.{HasRecovered, IsFirstFault}
use Rattle.domain_faults.specs.log_recovery.declared.redone.Redone.{Redone}
use Rattle.domain_faults.specs.log_recovery.declared.fault.RecoverFault.{RecoverFault}
use Rattle.domain_faults.specs.log_recovery.declared.fault.RecoverFault.TheVariants as recovery
use Rattle.image_loading.specs.Loading.{NamesCause}
use Rattle.image_loading.specs.declared.fault.LoadFault.{LoadFault}
use Rattle.image_loading.specs.declared.fault.LoadFault.TheVariants as loading
use Rattle.domain_bringing.specs.Fault.{HasCause, IfNotADomain, IsNoDomain, IsWrongOn, same_fault, same_recovery}
use Rattle.domain_bringing.specs.declared.fault.BringFault.{BringFault}
use Rattle.domain_bringing.specs.declared.fault.BringFault.TheVariants.{Fault, NotADomain, OutOfMemory}

-- ---- loading

loaded : (T : Type 0) (old new : Disk) (fault : LoadFault) → NamesCause {T = T} old new (Err fault) → HasCause old new (same_fault fault)
loaded T old new (loading.Fault vol) cause = cause
loaded T old new loading.OutOfMemory cause = cause

pub load_cause : (T : Type 0) (old new : Disk) (fault : LoadFault) (other : BringFault) → other ≡ same_fault fault → NamesCause {T = T} old new (Err fault) → HasCause old new other
load_cause T old new fault other is cause = subst (HasCause old new) (sym is) (loaded T old new fault cause)

-- a fault of loading names no page
pub no_page : (P : ℕ → ℕ → Type 0) (fault : LoadFault) (other : BringFault) → other ≡ same_fault fault → IfNotADomain other P
no_page P fault other is = subst (λ f. IfNotADomain f P) (sym is) (none fault)
  where
    none : (fault : LoadFault) → IfNotADomain (same_fault fault) P
    none (loading.Fault vol) = tt
    none loading.OutOfMemory = tt

-- ---- recovery

recovered : (old new : Disk) (fault : RecoverFault) → IsCause old new fault → HasCause old new (same_recovery fault)
recovered old new (recovery.Fault vol) cause = cause
recovered old new (recovery.NotADomain vol at) cause = cause
recovered old new recovery.OutOfMemory cause = cause

pub recovery_cause : (old new : Disk) (fault : RecoverFault) (other : BringFault) → other ≡ same_recovery fault → IsCause old new fault → HasCause old new other
recovery_cause old new fault other is cause = subst (HasCause old new) (sym is) (recovered old new fault cause)

first_place : (old : Disk) (fault : RecoverFault) → IfNone fault (λ vol at. Tells old → IsFirstFault old.sizes old.now.contents vol at) → IfNotADomain (same_recovery fault) (λ vol at. Tells old → IsNoDomain old.sizes old.now.contents vol at)
first_place old (recovery.Fault vol) wrong = tt
first_place old (recovery.NotADomain vol at) wrong = λ told. inl (wrong told)
first_place old recovery.OutOfMemory wrong = tt

pub recovery_place : (old : Disk) (fault : RecoverFault) (other : BringFault) → other ≡ same_recovery fault → IfNone fault (λ vol at. Tells old → IsFirstFault old.sizes old.now.contents vol at)
    → IfNotADomain other (λ vol at. Tells old → IsNoDomain old.sizes old.now.contents vol at)
recovery_place old fault other is wrong = subst (λ f. IfNotADomain f (λ vol at. Tells old → IsNoDomain old.sizes old.now.contents vol at)) (sym is) (first_place old fault wrong)

-- ---- behind other reads

pub cause_before : (old mid new : Disk) → mid.read_faults ≡ old.read_faults → (fault : BringFault) → HasCause mid new fault → HasCause old new fault
cause_before old mid new passed (Fault vol) cause = subst (λ counts. new.read_faults ≡ raised_at counts vol) passed cause
cause_before old mid new passed (NotADomain vol at) cause = cause ∙ passed
cause_before old mid new passed OutOfMemory cause = cause ∙ passed

-- what is said of a place is said of it where more is known
pub place_weaker : (P Q : ℕ → ℕ → Type 0) → ((vol at : ℕ) → P vol at → Q vol at) → (fault : BringFault) → IfNotADomain fault P → IfNotADomain fault Q
place_weaker P Q weaker (Fault vol) is = tt
place_weaker P Q weaker (NotADomain vol at) is = weaker vol at is
place_weaker P Q weaker OutOfMemory is = tt

-- where no place is told, all that is said of one is
pub no_place : (P : ℕ → ℕ → Type 0) (fault : BringFault) → IfNotADomain fault (λ vol at. ⊥) → IfNotADomain fault P
no_place P (Fault vol) is = tt
no_place P (NotADomain vol at) is = absurd is
no_place P OutOfMemory is = tt

-- of an error more is known
pub err_weaker : {T : Type 0} (result : Result T BringFault) (P Q : BringFault → Type 0) → ((fault : BringFault) → P fault → Q fault) → IfErr result P → IfErr result Q
err_weaker (Ok x) P Q weaker is = tt
err_weaker (Err fault) P Q weaker is = weaker fault is

-- a place that no recovered log allows
pub never_wrong : (disk : Disk) (found : Redone) (fault : BringFault) → ((groups : List Group) → HasRecovered disk.sizes disk.now.contents groups found → ⊥) → IsWrongOn disk found fault
never_wrong disk found (Fault vol) never = tt
never_wrong disk found (NotADomain vol at) never = λ told groups has. absurd (never groups has)
never_wrong disk found OutOfMemory never = tt

-- what the log was recovered of is known: so the place is that of the rack
pub wrong_known : (disk : Disk) (found : Redone) → (Tells disk → (groups : List Group) × HasRecovered disk.sizes disk.now.contents groups found) → (fault : BringFault) → IsWrongOn disk found fault
    → IfNotADomain fault (λ vol at. Tells disk → IsNoDomain disk.sizes disk.now.contents vol at)
wrong_known disk found has (Fault vol) is = tt
wrong_known disk found has (NotADomain vol at) is = λ told. let was = has told in is told was.0 was.1
wrong_known disk found has OutOfMemory is = tt

-- after calls that only read, the same is wrong as before
pub wrong_before : (old mid : Disk) (found : Redone) → OnlyReads old mid → (fault : BringFault) → IsWrongOn mid found fault → IsWrongOn old found fault
wrong_before old mid found reads (Fault vol) is = tt
wrong_before old mid found reads (NotADomain vol at) is = λ told groups has.
    let now : mid.now ≡ old.now = reads.now told in
    let sizes : mid.sizes ≡ old.sizes = reads.touches.sizes in
    subst (λ (m : Moment). IsNoDomain old.sizes m.contents vol at) now
    (subst (λ (s : List ℕ). IsNoDomain s mid.now.contents vol at) sizes
    (is (reads.touches.told ∙ told) groups
    (subst (λ (s : List ℕ). HasRecovered s mid.now.contents groups found) (sym sizes) (subst (λ (m : Moment). HasRecovered old.sizes m.contents groups found) (sym now) has))))
wrong_before old mid found reads OutOfMemory is = tt
