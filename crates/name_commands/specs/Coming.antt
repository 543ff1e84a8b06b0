-- An entry of a client's that comes next.
use Rattle.std.specs.Prelude.{◌≡◌, ◌≤◌, ◌⊎◌, None, ◌++◌, ◌∷◌, ℕ, false, List, [], All}
use Rattle.domain_changes.specs.fileset_model.Apply.{AnswersIfMemory, refusal_of}
use Rattle.domain_changes.specs.fileset_model.Filesets.{FilesetMap}
use Rattle.domain_changes.specs.fileset_values.declared.command.Actor.TheVariants.{Client}
use Rattle.domain_changes.specs.fileset_values.declared.command.Command.{Command}
use Rattle.domain_changes.specs.fileset_values.declared.entry.Entry.{Entry}
use Rattle.domain_changes.specs.fileset_values.declared.reply.Refusal.TheVariants.{NoSpace}
use Rattle.domain_changes.specs.fileset_values.declared.reply.Reply.{Reply}
use Rattle.domain_changes.specs.fileset_values.declared.reply.Reply.TheVariants.{Refused}
use Rattle.domain_changes.specs.legal_histories.Room.{need}
use Rattle.domain_changes.specs.legal_histories.Step.{TakesSpace}
use Rattle.domain_changes.specs.legal_histories.VolumeReply.{is_movers}
use Rattle.domain_changes.specs.domain_memory.Memory.{StandsFor}
use Rattle.domain_changes.specs.domain_memory.Staged.{IsSettled, MayBeKept}
use Rattle.domain_changes.specs.domain_memory.declared.memory.DomainMemory.{DomainMemory}
use Rattle.domain_changes.specs.domain_memory.Going.{free_in}
use Rattle.domain_state.specs.History.{NonePanicked}
use Rattle.domain_state.specs.Short.{IsShort}

-- an entry of a client's may come after these: none has a greater stamp, and none panicked
pub record ComesNext (entries : List Entry) (e : Entry) : Type 0 where
  pub stamp : All (λ before. before.stamp ≤ e.stamp) entries
  pub calm : NonePanicked entries
  pub client : ℕ
  pub actor : e.actor ≡ Client client
  pub command : is_movers e.command ≡ false

-- ** A command that is answered

-- with the change that is laid over memory a command on these filesets has this answer,
-- out-of-memory if nothing changes, and the change may be kept
pub record IsAnswered (memory : DomainMemory) (all : FilesetMap) (command : Command) (reply : Reply)
    : Type 0 where
  pub now : FilesetMap
  pub kept : MayBeKept memory now
  pub means : AnswersIfMemory all command reply now

-- a domain's history has one entry more, of a client's with this command; the domain stands for
-- what its reply means
pub record AddsAnswer (client : ℕ) (command : Command) (old new : DomainMemory)
    (before after : List Entry) : Type 0 where
  pub reply : Reply
  pub stamp : ℕ
  pub adds : after ≡ before ++ record {
    actor = Client client;
    command = command;
    reply = reply;
    stamp = stamp;
  } ∷ []
  pub means : (all : FilesetMap) → StandsFor old all
      → (now : FilesetMap) × AnswersIfMemory all command reply now × StandsFor new now

-- it has one of this command that was answered no-space, with the pages that are free now and those
-- that the command may need; it takes space and no rule refuses it, but the domain is short of
-- pages, and stands for what it stood for
pub record AddsNoSpace (client : ℕ) (command : Command) (old new : DomainMemory)
    (before after : List Entry) : Type 0 where
  pub stamp : ℕ
  pub adds : after ≡ before ++ record {
    actor = Client client;
    command = command;
    reply = Refused (NoSpace (free_in new) (need command));
    stamp = stamp;
  } ∷ []
  pub short : IsShort new (free_in new) (need command)
  pub takes : (all : FilesetMap) → StandsFor old all → TakesSpace all command
  pub allowed : (all : FilesetMap) → StandsFor old all → refusal_of all command ≡ None
  pub stands : (all : FilesetMap) → StandsFor old all → StandsFor new all

-- one of the two
abbrev pub AddsOne : ℕ → Command → DomainMemory → DomainMemory → List Entry → List Entry → Type 0
AddsOne client command old new before after =
    AddsAnswer client command old new before after
    ⊎ AddsNoSpace client command old new before after

-- a domain's history has no entry more, and it stands for what it stood for, with no change over it
pub record AddsNone (old new : DomainMemory) (before after : List Entry) : Type 0 where
  pub settled : IsSettled new
  pub same : after ≡ before
  pub stands : (all : FilesetMap) → StandsFor old all → StandsFor new all
