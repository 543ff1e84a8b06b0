-- What a run has read, by how it ended.
use Rattle.std.specs.Prelude.{◌≡◌, ◌⊎◌, ℕ, Option, Ok, List, []}
use Rattle.std.specs.Io.KnownBytes.{IsAtEnd}
use Rattle.domain_faults.specs.fileset_values.Shuffle.{Shuffle}
use Rattle.domain_faults.specs.fileset_values.declared.entry.Entry.{Entry}
use Rattle.script_text.specs.Script.{Reports, script_of}
use Rattle.script_text.specs.declared.script.Script.{Script}
use Rattle.script_text.specs.declared.script.ScriptFault.TheVariants.{Bad}
use Rattle.run_parts.specs.Answering.{section_of}
use Rattle.run_parts.specs.Transfer.{IsNoLonger, IsShort, IsTooLong}
use Rattle.run_parts.specs.declared.status.Status.{Status}
use Rattle.run_parts.specs.declared.status.Status.TheVariants as status

-- the bytes read are all there were, and say this script
pub record IsScript (left : Option (List ℕ)) (read : List ℕ) (script : Script) : Type 0 where
  pub short : IsShort read
  pub ended : IsAtEnd left
  pub says : script_of read ≡ Ok script

-- they say a script
abbrev pub ReadsScript : Option (List ℕ) → List ℕ → Type 0
ReadsScript left read = (script : Script) × IsScript left read script

-- the history has each client's commands of the script that was read
pub record Follows (left : Option (List ℕ)) (read : List ℕ) (history : List Entry) : Type 0 where
  pub script : Script
  pub is_script : IsScript left read script
  pub shuffle : Shuffle history (section_of script)

-- how a run ends that gets no script: too long only if one byte more was read than a script may
-- have, and bad only if the script was read to its end and has such a bad line. No more bytes are
-- ever read than that one
abbrev pub GetsNoScript : Option (List ℕ) → List ℕ → Status → Type 0
GetsNoScript left read (status.Usage word) = read ≡ []
GetsNoScript left read status.SourceFault = IsShort read
GetsNoScript left read status.TooLong = IsTooLong read
GetsNoScript left read (status.BadScript line kind) =
    IsShort read × IsAtEnd left × Reports (Bad line kind) (script_of read)
GetsNoScript left read status.OutOfMemory = IsNoLonger read
GetsNoScript left read other = ⊥

-- what was read, by how a run ended and the history that it has: if a run has begun, a script that
-- the history follows; and if it could not begin, a script, if the domain was why
abbrev pub HasRead : Option (List ℕ) → List ℕ → Status → List Entry → Type 0
HasRead left read status.Ok history = Follows left read history
HasRead left read status.SinkFault history = Follows left read history
HasRead left read (status.VolumeFault vol) history =
    ((history ≡ []) × ReadsScript left read) ⊎ Follows left read history
HasRead left read status.OutOfMemory history =
    ((history ≡ []) × IsNoLonger read) ⊎ Follows left read history
HasRead left read (status.NotADomain vol at) history = (history ≡ []) × ReadsScript left read
HasRead left read (status.Unfit why) history = (history ≡ []) × ReadsScript left read
HasRead left read (status.VolumeSmall pages) history = (history ≡ []) × ReadsScript left read
HasRead left read other history = (history ≡ []) × GetsNoScript left read other
