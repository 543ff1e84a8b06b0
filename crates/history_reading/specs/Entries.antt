-- The entries whose lines are read back.
use Rattle.std.specs.Prelude.{◌≡◌, ◌≢◌, ℕ, ◌≤◌, true, All, MatchOption, List, length}
use Rattle.script_text.specs.fileset_values.declared.command.Actor.{Actor}
use Rattle.script_text.specs.fileset_values.declared.command.Actor.TheVariants.{Client, Mover}
use Rattle.script_text.specs.fileset_values.declared.command.Command.{Command}
use Rattle.script_text.specs.fileset_values.declared.command.Command.TheVariants as command
use Rattle.script_text.specs.fileset_values.declared.entry.Entry.{Entry}
use Rattle.script_text.specs.fileset_values.declared.reply.ExtentItem.{ExtentItem}
use Rattle.script_text.specs.fileset_values.declared.reply.FilesetItem.{FilesetItem}
use Rattle.script_text.specs.fileset_values.declared.reply.NameItem.{NameItem}
use Rattle.script_text.specs.fileset_values.declared.reply.Refusal.{Refusal}
use Rattle.script_text.specs.fileset_values.declared.reply.Refusal.TheVariants as refusal
use Rattle.script_text.specs.fileset_values.declared.reply.Reply.{Reply}
use Rattle.script_text.specs.fileset_values.declared.reply.Reply.TheVariants as reply
use Rattle.script_text.specs.fileset_values.declared.reply.VolumeItem.{VolumeItem}
use Rattle.history_reading.specs.declared.kind.AnswerKind.{AnswerKind}
use Rattle.history_reading.specs.declared.kind.AnswerKind.TheVariants as kind
use Rattle.script_text.specs.History.{line_of}
use Rattle.script_text.specs.command_text.WellFormed.{IsWellFormed}
use Rattle.script_text.specs.word_forms.WellFormed.{AreBytes, IsFileset, IsLarge, IsSmall, is_written_name}
use Rattle.script_text.specs.declared.fault.FaultKind.TheVariants.{WordForm}
use Rattle.script_text.specs.declared.script.ScriptFault.{ScriptFault}
use Rattle.script_text.specs.declared.script.ScriptFault.TheVariants as fault

-- a client, numbered from 1 to 8, or the mover
abbrev pub IsActor : Actor → Type 0
IsActor (Client number) = (1 ≤ number) × (number ≤ 8)
IsActor Mover = Unit {0}

-- what a command answers if it is not refused
abbrev pub answer_kind : Command → AnswerKind
answer_kind (command.Write place offset bytes) = kind.Count
answer_kind (command.Links place) = kind.Count
answer_kind (command.Migrate place first count from to) = kind.Count
answer_kind command.Balance = kind.Count
answer_kind (command.Defragment place) = kind.Count
answer_kind (command.Read place offset count) = kind.Read
answer_kind (command.List place) = kind.Names
answer_kind (command.Stat place) = kind.Stat
answer_kind command.Showfsets = kind.Filesets
answer_kind (command.Showquota fileset who) = kind.Quota
answer_kind command.Showfdmn = kind.Volumes
answer_kind (command.Showfile place) = kind.Extents
answer_kind _ = kind.Done

-- ** Replies whose parts are of the forms of their words

abbrev pub IsNameItem : NameItem → Type 0
IsNameItem item = is_written_name item.name ≡ true

abbrev pub IsFilesetItem : FilesetItem → Type 0
IsFilesetItem item = IsFileset item.fileset × MatchOption item.original (Unit {0}) IsFileset

abbrev pub IsVolumeItem : VolumeItem → Type 0
IsVolumeItem item = IsSmall item.vol × IsSmall item.pages × IsSmall item.used × IsSmall item.free

abbrev pub IsExtentItem : ExtentItem → Type 0
IsExtentItem item = IsSmall item.page × IsSmall item.count × IsSmall item.vol × IsSmall item.first

-- at most 8,192 bytes
abbrev pub IsReadable : List ℕ → Type 0
IsReadable bytes = (length bytes ≤ 8_192) × AreBytes bytes

-- a refusal with numbers below 2^64, and volumes below 2^32
abbrev pub IsRefusal : Refusal → Type 0
IsRefusal (refusal.QuotaFiles limit used) = IsLarge limit × IsLarge used
IsRefusal (refusal.QuotaBlocks limit used asked) = IsLarge limit × IsLarge used × IsLarge asked
IsRefusal (refusal.NoSpace free need) = IsLarge free × IsLarge need
IsRefusal (refusal.NoRoom vol free) = IsSmall vol × IsLarge free
IsRefusal (refusal.ReadFault vol) = IsSmall vol
IsRefusal (refusal.Panicked vol) = IsSmall vol
IsRefusal (refusal.Unsettled moved) = IsLarge moved
IsRefusal _ = Unit {0}

-- a refusal, or an answer of this kind; a listing may be empty
abbrev pub IsReply : AnswerKind → Reply → Type 0
IsReply kind (reply.Refused refusal) = IsRefusal refusal
IsReply kind.Done reply.Done = Unit {0}
IsReply kind.Count (reply.Count n) = IsLarge n
IsReply kind.Read (reply.Read bytes) = IsReadable bytes
IsReply kind.Names (reply.Names names) = All IsNameItem names
IsReply kind.Stat (reply.FileStat uid gid size pages logged) =
    IsSmall uid × IsSmall gid × IsLarge size × IsSmall pages
IsReply kind.Stat (reply.DirStat uid gid rows) = IsSmall uid × IsSmall gid × IsSmall rows
IsReply kind.Filesets (reply.Filesets filesets) = All IsFilesetItem filesets
IsReply kind.Quota (reply.Quota files files_limit blocks blocks_limit) =
    IsLarge files × IsLarge files_limit × IsLarge blocks × IsLarge blocks_limit
IsReply kind.Volumes (reply.Volumes volumes) = All IsVolumeItem volumes
IsReply kind.Extents (reply.Extents extents) = All IsExtentItem extents
IsReply _ _ = ⊥

-- ** Entries

-- an entry whose parts are of the forms of their words, with a reply that its command has
pub record IsEntry (entry : Entry) : Type 0 where
  pub actor : IsActor entry.actor
  pub command : IsWellFormed entry.command
  pub reply : IsReply (answer_kind entry.command) entry.reply

-- the same entry with stamp 0
abbrev pub unstamped : Entry → Entry
unstamped entry = record entry { stamp = 0 }

-- a line that no entry has, reported as a first line with a word that is not of its form; memory
-- may run out at any line
abbrev pub IsNoLine : List ℕ → ScriptFault → Type 0
IsNoLine line (fault.Bad number bad) =
    (number ≡ 1) × (bad ≡ WordForm) × ((entry : Entry) → IsEntry entry → line_of entry ≢ line)
IsNoLine line fault.OutOfMemory = Unit {0}
