-- Histories over filesets without volumes.
use Rattle.std.specs.Prelude.{◌≡◌, ℕ, Bool, false, not, List, [], ◌∷◌, ◌++◌}
use Rattle.fileset_model.specs.Apply.{AnswersIfMemory}
use Rattle.fileset_model.specs.Filesets.{FilesetMap}
use Rattle.fileset_model.specs.fileset_values.declared.command.Actor.TheVariants.{Client}
use Rattle.fileset_model.specs.fileset_values.declared.entry.Entry.{Entry}
use Rattle.fileset_model.specs.fileset_values.declared.command.Command.{Command}
use Rattle.fileset_model.specs.fileset_values.declared.command.Command.TheVariants.{Showfdmn, Showfile, Stripe}
use Rattle.fileset_model.specs.fileset_values.declared.reply.Refusal.TheVariants.{NoSpace, ReadFault, Panicked, Cancelled}
use Rattle.fileset_model.specs.fileset_values.declared.reply.Reply.{Reply}
use Rattle.fileset_model.specs.fileset_values.declared.reply.Reply.TheVariants.{Refused}
use Rattle.legal_histories.specs.Marks.{GainsMarks}
use Rattle.legal_histories.specs.VolumeReply.{is_movers}

-- each command of a history is answered in turn as it means, or out-of-memory; this leads from
-- these filesets to others
pub data PlainRun (first : FilesetMap) : List Entry → FilesetMap → Type 0 where
  none : PlainRun first [] first
  entry : {history : List Entry} {all : FilesetMap} → PlainRun first history all
      → (e : Entry) (new : FilesetMap) → AnswersIfMemory all e.command e.reply new
      → PlainRun first (history ++ e ∷ []) new

-- each command of a history is answered in turn as it means, or out-of-memory; between the answers,
-- clones may lose some of their numbers for want of pages
pub data MarkedRun (first : FilesetMap) : List Entry → FilesetMap → Type 0 where
  none : MarkedRun first [] first
  entry : {history : List Entry} {all : FilesetMap} → MarkedRun first history all
      → (e : Entry) (new : FilesetMap) → AnswersIfMemory all e.command e.reply new
      → MarkedRun first (history ++ e ∷ []) new
  loses : {history : List Entry} {all : FilesetMap} → MarkedRun first history all
      → (new : FilesetMap) → GainsMarks (λ original clone number. Unit {0}) all new
      → MarkedRun first history new

-- whether a command is of clients and speaks of filesets alone
abbrev pub is_of_filesets : Command → Bool
is_of_filesets Showfdmn = false
is_of_filesets (Showfile place) = false
is_of_filesets (Stripe width place) = false
is_of_filesets command = not (is_movers command)

-- a reply whose cause lies in the filesets, or want of memory
abbrev pub IsInside : Reply → Type 0
IsInside (Refused (NoSpace free need)) = ⊥
IsInside (Refused (ReadFault volume)) = ⊥
IsInside (Refused (Panicked volume)) = ⊥
IsInside (Refused Cancelled) = ⊥
IsInside reply = Unit {0}

-- an entry of a client's, with a command that clients may give
pub record IsClients (e : Entry) : Type 0 where
  pub number : ℕ
  pub actor : e.actor ≡ Client number
  pub command : is_movers e.command ≡ false
