-- What a fault of a store tells, if the checks refuse nothing.
use Rattle.std.proofs.Common.{◌≡◌, ℕ, None, sym, subst}
use Rattle.directory_rows.specs.page_store.Bitfiles.{Bitfiles, IsCounted}
use Rattle.directory_rows.specs.page_store.declared.fault.StoreFault.{StoreFault}
use Rattle.directory_rows.specs.page_store.declared.fault.StoreFault.TheVariants as store
use Rattle.plain_program.specs.fileset_model.Paths.{first_refusal}
use Rattle.plain_program.specs.fileset_model.declared.fileset.FilesetSlot.{FilesetSlot}
use Rattle.name_space.specs.Changes.{Checks, IfRefused, IsFaultOf, IsOriginal, fault_of}
use Rattle.name_space.specs.declared.fault.NameFault.{NameFault}

pub faulted : (checks : Checks) (old new : Bitfiles) (before after : ℕ) (fault : StoreFault) (answer : NameFault) → answer ≡ fault_of fault → IsCounted before after fault
    → ((slot : FilesetSlot) → IsOriginal old slot → first_refusal (checks slot) ≡ None) → IsFaultOf checks old new before after answer
faulted checks old new before after fault answer is counted allowed = subst (IsFaultOf checks old new before after) (sym is) (by_fault fault counted)
  where
    by_fault : (fault : StoreFault) → IsCounted before after fault → IsFaultOf checks old new before after (fault_of fault)
    by_fault store.NoPage counted = (counted, allowed)
    by_fault store.OutOfMemory counted = tt

-- a fault of a store is no refusal
pub unrefused : (holds : Type 0) (fault : StoreFault) (answer : NameFault) → answer ≡ fault_of fault → IfRefused answer holds
unrefused holds fault answer is = subst (λ a. IfRefused a holds) (sym is) (by_fault fault)
  where
    by_fault : (fault : StoreFault) → IfRefused (fault_of fault) holds
    by_fault store.NoPage = tt
    by_fault store.OutOfMemory = tt
