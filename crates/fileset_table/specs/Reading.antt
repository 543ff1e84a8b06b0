-- What the reading of a slot or of a table answers.
use Rattle.std.specs.Prelude.{Result, Ok, Err}
use Rattle.fileset_table.specs.declared.slot.TableFault.{TableFault}
use Rattle.fileset_table.specs.declared.slot.TableFault.TheVariants.{Bad, OutOfMemory}

-- Bad comes if nothing is there; memory may be short anywhere
abbrev pub Fails : {A : Type 0} → (A → Type 0) → TableFault → Type 0
Fails {A = A} Is Bad = (x : A) → ¬ Is x
Fails Is OutOfMemory = Unit {0}

-- what was read is there
abbrev pub Reads : {A : Type 0} → (A → Type 0) → Result A TableFault → Type 0
Reads Is (Ok x) = Is x
Reads Is (Err fault) = Fails Is fault

-- a view of what was read in parts is there
abbrev pub ReadsAs : {A B : Type 0} → (A → B) → (B → Type 0) → Result A TableFault → Type 0
ReadsAs view Is (Ok x) = Is (view x)
ReadsAs view Is (Err fault) = Fails Is fault
