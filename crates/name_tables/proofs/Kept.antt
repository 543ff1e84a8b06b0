-- What a call on names leaves.
use Rattle.std.proofs.Common.{◌≡◌, ℕ, Some, Result, OnOk, sym, subst}
use Rattle.std.proofs.lemmas.Result.{on_ok_weaker}
use Rattle.fileset_lending.specs.domain_base.declared.place.Kind.TheVariants.{Directory}
use Rattle.fileset_lending.specs.domain_base.declared.place.Tag.{Tag}
use Rattle.fileset_lending.specs.page_store.Bitfiles.{Bitfile, Bitfiles, IsDirectory}
use Rattle.fileset_lending.specs.fileset_values.Orders.{Path}
use Rattle.fileset_lending.specs.fileset_model.declared.fileset.FilesetSlot.{FilesetSlot}
use Rattle.fileset_lending.proofs.OfLegalHistories.ValidLemmas.{to_some_and}
use Rattle.fileset_lending.specs.name_space.Changes.{Checks, HasOriginal, IsFaultOf, IsOriginal}
use Rattle.fileset_lending.specs.name_space.Names.{led_to}
use Rattle.fileset_lending.proofs.OfNameSpace.Originals.{is_in}
use Rattle.fileset_lending.specs.name_space.declared.fault.NameFault.{NameFault}
use Rattle.fileset_lending.specs.name_space.declared.fault.NameFault.TheVariants.{Refused, NoPage, OutOfMemory}
use Rattle.name_tables.specs.Faults.{IsRefusal}

unchanged : (checks : Checks) (old new : Bitfiles) (before after : ℕ) (fault : NameFault) → IsRefusal fault → IsFaultOf checks old new before after fault → new ≡ old
unchanged checks old new before after (Refused refusal) is told = told.0
unchanged checks old new before after NoPage is told = absurd is
unchanged checks old new before after OutOfMemory is told = absurd is

-- a refusal leaves names
pub refusal_keeps : {T E : Type 0} (checks : Checks) (old new : Bitfiles) (before after : ℕ) (fault : NameFault) (result : Result T E) → IsFaultOf checks old new before after fault → HasOriginal old
    → OnOk result (IsRefusal fault) → OnOk result (HasOriginal new)
refusal_keeps checks old new before after fault result told has refused =
    on_ok_weaker result (λ is. subst HasOriginal (sym (unchanged checks old new before after fault is told)) has) refused

pub original_of : {files : Bitfiles} {slot : FilesetSlot} → IsOriginal files slot → HasOriginal files
original_of {slot = slot} is = (slot, is)

-- what a directory at a path is in the set
pub directory_there : (files : Bitfiles) → HasOriginal files → (path : Path) (tag : Tag) → led_to files path ≡ Some (tag, Directory) → IsDirectory files tag
directory_there files has path tag led =
    let had = is_in files has.0 has.1.names has.1.role path tag Directory led in
    to_some_and (λ (f : Bitfile). f.kind ≡ Directory) (files tag) had.file had.there had.kind
