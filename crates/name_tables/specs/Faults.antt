-- Faults of calls on names.
use Rattle.fileset_lending.specs.name_space.declared.fault.NameFault.{NameFault}
use Rattle.fileset_lending.specs.name_space.declared.fault.NameFault.TheVariants.{Refused, NoPage, OutOfMemory}

-- the call was refused
abbrev pub IsRefusal : NameFault → Type 0
IsRefusal (Refused refusal) = Unit {0}
IsRefusal NoPage = ⊥
IsRefusal OutOfMemory = ⊥
