-- How a run may end that gets no script, and one that has its script.
use Rattle.std.proofs.Common.{arith, ◌≡◌, ℕ, ◌≤◌, List, length, Option}
use Rattle.std.specs.Io.KnownBytes.{IsAtEnd}
use Rattle.script_text.specs.Script.{Reports, script_of}
use Rattle.script_text.specs.declared.script.Script.{Script}
use Rattle.script_text.specs.declared.script.ScriptFault.{ScriptFault}
use Rattle.script_text.specs.declared.script.ScriptFault.TheVariants as fault
use Rattle.domain_faults.specs.fileset_values.declared.entry.Entry.{Entry}
use Rattle.run_parts.specs.Answering.{AnswersScript}
use Rattle.run_parts.specs.Exit.{status_of_fault, status_of_read}
use Rattle.run_parts.specs.Reading.{Follows, GetsNoScript, IsScript}
use Rattle.run_parts.specs.Transfer.{IsNoLonger, IsShort, IsTooLong, StopsAfter}
use Rattle.run_parts.proofs.Shuffled.{Shuffle-from_answers, mover-None}
use Rattle.run_parts.specs.declared.transfer.ReadError.{ReadError}
use Rattle.run_parts.specs.declared.transfer.ReadError.TheVariants as read

pub IsShort-from_bound : (bytes : List ℕ) → length bytes ≤ 33_554_432 → IsShort bytes
unfolding IsShort
IsShort-from_bound bytes within = within

pub IsNoLonger-from_short : (bytes : List ℕ) → IsShort bytes → IsNoLonger bytes
unfolding IsNoLonger IsShort
IsNoLonger-from_short bytes short = omega (arith, short)

pub GetsNoScript-from_read : (left : Option (List ℕ)) (bytes : List ℕ) (e : ReadError) → StopsAfter 33_554_432 e bytes → GetsNoScript left bytes (status_of_read e)
unfolding IsNoLonger IsShort IsTooLong
GetsNoScript-from_read left bytes read.SourceFault stops = stops
GetsNoScript-from_read left bytes read.TooLong stops = stops
GetsNoScript-from_read left bytes read.OutOfMemory stops = stops

pub GetsNoScript-from_fault : (left : Option (List ℕ)) (bytes : List ℕ) (f : ScriptFault) → IsShort bytes → IsAtEnd left → Reports f (script_of bytes)
    → GetsNoScript left bytes (status_of_fault f)
GetsNoScript-from_fault left bytes (fault.Bad line kind) short ended reports = (short, ended, reports)
GetsNoScript-from_fault left bytes fault.OutOfMemory short ended reports = IsNoLonger-from_short bytes short

-- ---- a run that has its script

pub Follows-from_answers : (left : Option (List ℕ)) (bytes : List ℕ) (script : Script) (history : List Entry) → IsScript left bytes script → AnswersScript script history → Follows left bytes history
Follows-from_answers left bytes script history is answers = record {
  script = script;
  is_script = is;
  shuffle = Shuffle-from_answers script history (mover-None bytes script is.says) answers;
}
