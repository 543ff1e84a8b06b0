-- How a command ends that is laid over a domain's memory.
use Rattle.std.specs.Prelude.{◌≡◌, ◌⊎◌, true, false, None, Option, Result, Ok, Err, Some}
use Rattle.std.specs.List.{list_any}
use Rattle.domain_changes.specs.page_store.declared.fault.StoreFault.{StoreFault}
use Rattle.domain_changes.specs.page_store.declared.fault.StoreFault.TheVariants as fault
use Rattle.domain_changes.specs.fileset_model.Apply.{refusal_of}
use Rattle.domain_changes.specs.fileset_model.Filesets.{FilesetMap}
use Rattle.domain_changes.specs.fileset_values.declared.command.Command.{Command}
use Rattle.domain_changes.specs.fileset_values.declared.command.Command.TheVariants.{Cancel, Chfile, Create, Fsync, Link, Links, List as ListNames, Mkdir, Mkfset, Read, Rename, Rmdir, Rmfset, Setquota, Showfdmn, Showfile, Showfsets, Showquota, Stat, Sync, Truncate, Unlink, Write}
use Rattle.domain_changes.specs.fileset_values.declared.reply.Refusal.{Refusal}
use Rattle.domain_changes.specs.fileset_values.declared.reply.Reply.{Reply}
use Rattle.domain_changes.specs.fileset_table.Table.{is_free}
use Rattle.domain_changes.specs.legal_histories.Step.{TakesSpace}
use Rattle.domain_changes.specs.word_forms.Forms.{is_fileset_name}
use Rattle.domain_changes.specs.domain_memory.Memory.{StandsFor}
use Rattle.domain_changes.specs.domain_memory.declared.memory.DomainMemory.{DomainMemory}
use Rattle.domain_changes.specs.Beginning.{BeginsNone}
use Rattle.domain_changes.specs.Limits.{LimitsNone}
use Rattle.name_commands.specs.Coming.{IsAnswered}
use Rattle.name_commands.specs.Naming.{IsPathToGet}
use Rattle.name_commands.specs.declared.stop.Stop.{Stop}
use Rattle.name_commands.specs.declared.stop.Stop.TheVariants.{NoPage, OutOfMemory, Refused}

-- want of a page, or of memory, of a call that stores something
abbrev pub stop_of : StoreFault → Stop
stop_of fault.NoPage = NoPage
stop_of fault.OutOfMemory = OutOfMemory

-- the first refusal of the rules is told; or they refuse nothing, and a page is wanted; or memory
-- was short
abbrev pub StopsWith : Option Refusal → Stop → Type 0
StopsWith refusal (Refused told) = refusal ≡ Some told
StopsWith refusal NoPage = refusal ≡ None
StopsWith refusal OutOfMemory = Unit {0}

-- a command on these filesets stops in this way
abbrev pub StopsAs : FilesetMap → Command → Stop → Type 0
StopsAs all command stop = StopsWith (refusal_of all command) stop

-- it has an answer with the change that is laid over memory, or stops
abbrev pub EndsAs : DomainMemory → FilesetMap → Command → Result Reply Stop → Type 0
EndsAs now all command (Ok reply) = IsAnswered now all command reply
EndsAs now all command (Err stop) = StopsAs all command stop

-- the commands on filesets that are answered so far, with names of the forms that scripts have:
-- each is laid over a domain's memory
abbrev pub IsLaid : Command → Type 0
IsLaid (Mkfset fileset) = is_fileset_name fileset ≡ true
IsLaid (Rmfset fileset) = Unit {0}
IsLaid Showfsets = Unit {0}
IsLaid (Setquota fileset who files blocks) = Unit {0}
IsLaid (Showquota fileset who) = Unit {0}
IsLaid (Create place uid gid) = IsPathToGet place.path
IsLaid (Mkdir place uid gid) = IsPathToGet place.path
IsLaid (Write place offset bytes) = Unit {0}
IsLaid (Read place offset count) = Unit {0}
IsLaid (Truncate place size) = Unit {0}
IsLaid (Link place to) = IsPathToGet to
IsLaid (Links place) = Unit {0}
IsLaid (Unlink place) = Unit {0}
IsLaid (Rmdir place) = Unit {0}
IsLaid (Rename place to) = IsPathToGet to
IsLaid (ListNames place) = Unit {0}
IsLaid (Stat place) = Unit {0}
IsLaid (Fsync place) = Unit {0}
IsLaid (Chfile place logged) = Unit {0}
IsLaid Sync = Unit {0}
IsLaid Cancel = Unit {0}
IsLaid command = ⊥

-- the commands that are answered so far: these, and those that show volumes
abbrev pub IsServed : Command → Type 0
IsServed Showfdmn = Unit {0}
IsServed (Showfile place) = Unit {0}
IsServed command = IsLaid command

-- why a command may want a page, if that is known. For mkfset: no slot of the table is free, or no
-- page, or only one page and no cell. For setquota: no cell is free, and no page. For write: the
-- file lacks a page that its bytes lie in. rmfset, truncate, unlink, rmdir and chfile never want
-- one. Nothing is said yet of other commands on names
abbrev pub LacksPage : Command → DomainMemory → Type 0
LacksPage (Mkfset fileset) memory = (list_any is_free memory.table.slots ≡ false)
    ⊎ BeginsNone memory.space memory.cells fault.NoPage
LacksPage (Rmfset fileset) memory = ⊥
LacksPage (Setquota fileset who files blocks) memory =
    LimitsNone memory.space memory.cells fault.NoPage
LacksPage (Write place offset bytes) memory =
    (all : FilesetMap) → StandsFor memory all → TakesSpace all (Write place offset bytes)
LacksPage (Truncate place size) memory = ⊥
LacksPage (Unlink place) memory = ⊥
LacksPage (Rmdir place) memory = ⊥
LacksPage (Chfile place logged) memory = ⊥
LacksPage command memory = Unit {0}
