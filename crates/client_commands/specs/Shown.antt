-- What is shown of a domain's volumes.
use Rattle.std.specs.Prelude.{◌≡◌, ◌⊎◌, ◌++◌, ◌∷◌, ℕ, All, List, [], MatchOption, Result, Ok, Err}
use Rattle.file_commands.specs.fileset_files.Files.{Chains, place_at}
use Rattle.file_commands.specs.domain_base.declared.place.Kind.TheVariants.{File}
use Rattle.file_commands.specs.domain_base.declared.place.Tag.{Tag}
use Rattle.file_commands.specs.fileset_model.Apply.{in_fileset, read_checks}
use Rattle.file_commands.specs.fileset_model.Filesets.{FilesetMap}
use Rattle.file_commands.specs.fileset_values.declared.command.Actor.TheVariants.{Client}
use Rattle.file_commands.specs.fileset_values.declared.command.Command.{Command}
use Rattle.file_commands.specs.fileset_values.declared.command.Command.TheVariants.{Showfdmn, Showfile}
use Rattle.file_commands.specs.fileset_values.declared.command.Place.{Place}
use Rattle.file_commands.specs.fileset_values.declared.entry.Entry.{Entry}
use Rattle.file_commands.specs.fileset_values.declared.reply.ExtentItem.{ExtentItem}
use Rattle.file_commands.specs.fileset_values.declared.reply.Refusal.TheVariants as refusal
use Rattle.file_commands.specs.fileset_values.declared.reply.Reply.{Reply}
use Rattle.file_commands.specs.fileset_values.declared.reply.Reply.TheVariants.{Extents, Refused, Volumes}
use Rattle.file_commands.specs.fileset_values.declared.reply.VolumeItem.{VolumeItem}
use Rattle.file_commands.specs.free_space.Spaces.{held_pages, volume_of}
use Rattle.file_commands.specs.legal_histories.State.{State}
use Rattle.file_commands.specs.legal_histories.Volumes.{ShowsExtents, ShowsMembers, pages_at}
use Rattle.file_commands.specs.domain_memory.Memory.{StandsFor}
use Rattle.file_commands.specs.domain_memory.declared.memory.DomainMemory.{DomainMemory}
use Rattle.file_commands.specs.domain_state.Opening.{HasVolumesOf}
use Rattle.file_commands.specs.file_changes.Extents.{StandsThere}
use Rattle.file_commands.specs.file_changes.Stages.{AreFilesIn}
use Rattle.file_commands.specs.name_commands.Coming.{AddsOne}
use Rattle.file_commands.specs.name_commands.Placing.{IsPlaced}
use Rattle.file_commands.specs.name_commands.declared.stop.Stop.{Stop}
use Rattle.file_commands.specs.name_commands.declared.stop.Stop.TheVariants as stop

-- the commands that show volumes
abbrev pub IsShowing : Command → Type 0
IsShowing Showfdmn = Unit {0}
IsShowing (Showfile place) = Unit {0}
IsShowing command = ⊥

-- as many pages of each volume are used as are held: those that wait count as free
abbrev pub AreHeld : DomainMemory → List VolumeItem → Type 0
AreHeld memory lines = All (λ line. line.used ≡ held_pages (volume_of memory.space line.vol)) lines

-- the lines show the members of a state if these are the domain's, and count its own pages
pub record ShowsVolumes (memory : DomainMemory) (lines : List VolumeItem) : Type 0 where
  pub shown : (s : State) → HasVolumesOf memory.frame.anchor s → ShowsMembers s lines
  pub held : AreHeld memory lines

-- the extents show the pages of the file at a place if the members are the domain's, and
-- each of their pages stands there
pub record ShowsHomes (memory : DomainMemory) (all : FilesetMap) (place : Place)
    (extents : List ExtentItem) : Type 0 where
  pub shown : (s : State) → HasVolumesOf memory.frame.anchor s
      → ShowsExtents s.members (pages_at all place) extents
  pub number : ℕ
  pub tag : Tag
  pub placed : IsPlaced memory all place number tag File
  pub there : (chains : Chains) → AreFilesIn memory number chains
      → All (StandsThere (place_at chains tag)) extents

-- a command has this answer; of a file it is refused as a read of it would be
abbrev pub IsShown : DomainMemory → FilesetMap → Command → Reply → Type 0
IsShown memory all Showfdmn reply =
    (lines : List VolumeItem) × (reply ≡ Volumes lines) × ShowsVolumes memory lines
IsShown memory all (Showfile place) reply =
    MatchOption (in_fileset all place.fileset (read_checks place.path))
    ((extents : List ExtentItem) × (reply ≡ Extents extents) × ShowsHomes memory all place extents)
    (λ told. reply ≡ Refused told)
IsShown memory all command reply = ⊥

-- or memory was short
abbrev pub IsShownIfMemory : DomainMemory → FilesetMap → Command → Reply → Type 0
IsShownIfMemory memory all command reply =
    IsShown memory all command reply ⊎ (reply ≡ Refused refusal.OutOfMemory)

-- a command that comes to no answer of its own is refused so, or memory was short
abbrev pub ShowsAs : DomainMemory → FilesetMap → Command → Result Reply Stop → Type 0
ShowsAs memory all command (Ok reply) = IsShown memory all command reply
ShowsAs memory all command (Err (stop.Refused told)) = IsShown memory all command (Refused told)
ShowsAs memory all command (Err stop.NoPage) = Unit {0}
ShowsAs memory all command (Err stop.OutOfMemory) = Unit {0}

-- a history has one entry more, of a client's with this command and reply
pub record AddsReply (client : ℕ) (command : Command) (reply : Reply) (before after : List Entry)
    : Type 0 where
  pub stamp : ℕ
  pub adds : after ≡ before ++ record {
    actor = Client client;
    command = command;
    reply = reply;
    stamp = stamp;
  } ∷ []

-- a domain's history has one, and the domain stands for what it stood for: its own volumes are
-- shown
pub record AddsShown (client : ℕ) (command : Command) (old new : DomainMemory)
    (before after : List Entry) : Type 0 where
  pub reply : Reply
  pub added : AddsReply client command reply before after
  pub shown : (all : FilesetMap) → StandsFor old all → IsShownIfMemory old all command reply
  pub stands : (all : FilesetMap) → StandsFor old all → StandsFor new all

-- a command on filesets is answered, or no-space; or one that shows volumes
abbrev pub AddsEntry : ℕ → Command → DomainMemory → DomainMemory → List Entry → List Entry → Type 0
AddsEntry client command old new before after =
    AddsOne client command old new before after
    ⊎ AddsShown client command old new before after
