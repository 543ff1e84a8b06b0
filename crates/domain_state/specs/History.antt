-- The history of a domain since it was opened.
use Rattle.std.specs.Prelude.{◌≡◌, ℕ, ◌-◌, ◌<◌, ◌≤◌, Bool, List, [], ◌∷◌, Contains, Option, get_or, if◌then◌else◌, length, map}
use Rattle.no_faults.specs.page_store.Pages.{Pages}
use Rattle.no_faults.specs.fileset_model.Filesets.{FilesetMap}
use Rattle.no_faults.specs.fileset_values.declared.command.Command.{Command}
use Rattle.no_faults.specs.fileset_values.declared.entry.Entry.{Entry}
use Rattle.no_faults.specs.fileset_values.declared.reply.Refusal.TheVariants.{Panicked, ReadFault}
use Rattle.no_faults.specs.fileset_values.declared.reply.Reply.{Reply}
use Rattle.no_faults.specs.fileset_values.declared.reply.Reply.TheVariants.{Refused}
use Rattle.no_faults.specs.legal_histories.Legal.{Legal}
use Rattle.no_faults.specs.legal_histories.State.{State}
use Rattle.no_faults.specs.page_ways.Frame.{frame_in}
use Rattle.no_faults.specs.domain_layout.Reached.{Frame}
use Rattle.no_faults.specs.domain_memory.Memory.{StandsFor}
use Rattle.no_faults.specs.domain_memory.Staged.{MayBeKept}
use Rattle.no_faults.specs.legal_histories.GoingOn.{MayGoOnFrom, stamped}
use Rattle.no_faults.specs.domain_memory.declared.memory.DomainMemory.{DomainMemory}
use Rattle.domain_state.specs.Opening.{IsStartOf}
use Rattle.domain_state.specs.Room.{IsWithinRoom}

-- from each state that the pages at the opening mean the entries lead to these filesets, with all
-- else as it was, while this job runs
abbrev pub LeadsTo : Pages → Frame → List ℕ → List Entry → Option Command → FilesetMap → Type 0
LeadsTo pages frame sizes entries job all = (start : State) → IsStartOf pages frame sizes start
    → ∥ Legal start entries job (record start { filesets = all }) ∥₁

-- memory is that of a domain with some filesets
abbrev pub StandsForSome : DomainMemory → Type 0
StandsForSome memory = (all : FilesetMap) × StandsFor memory all

-- with the anchor and version with which it was opened, the entries lead to them, and no more pages
-- are held than they have room for
pub record GoesOn (pages : Pages) (frame : Frame) (sizes : List ℕ) (memory : DomainMemory)
    (entries : List Entry) (job : Option Command) : Type 0 where
  pub same : frame_in memory.frame ≡ frame
  pub all : FilesetMap
  pub stands : StandsFor memory all
  pub leads : LeadsTo pages frame sizes entries job all
  pub within : IsWithinRoom pages frame sizes memory entries

-- ** A change that is kept

-- with the change that is laid over memory the domain stands for filesets to which an entry leads
-- from these, at each point to which the history may have come
pub record MayCommit (pages : Pages) (frame : Frame) (sizes : List ℕ) (memory : DomainMemory)
    (entries : List Entry) (job : Option Command) (e : Entry) (all : FilesetMap) : Type 0 where
  pub now : FilesetMap
  pub kept : MayBeKept memory now
  pub step : (start : State) → IsStartOf pages frame sizes start
      → MayGoOnFrom start entries job (record start { filesets = all }) e
      (record start { filesets = now })

-- ** Volumes that failed

-- a reply tells neither that a volume panicked nor that a read of one failed
abbrev pub IsCalm : Reply → Type 0
IsCalm reply = (volume : ℕ) → (¬ (reply ≡ Refused (Panicked volume)))
    × (¬ (reply ≡ Refused (ReadFault volume)))

-- by none of these replies a volume panicked
abbrev pub NonePanicked : List Entry → Type 0
NonePanicked entries = (volume : ℕ)
    → ¬ Contains (map (λ before. before.reply) entries) (Refused (Panicked volume))

-- an entry leads from these filesets to themselves, at each point to which the history may have
-- come
abbrev pub MayCommitUnchanged : Pages → Frame → List ℕ → List Entry → Option Command → Entry
    → FilesetMap → Type 0
MayCommitUnchanged pages frame sizes entries job e all = (start : State)
    → IsStartOf pages frame sizes start
    → MayGoOnFrom start entries job (record start { filesets = all }) e
    (record start { filesets = all })

-- ** Stamps

-- how many entries have their stamps: all but the one that an event has added
abbrev pub stamped_count : Bool → List Entry → ℕ
stamped_count added entries = if added then length entries - 1 else length entries

-- none of these is greater than a number of calls
abbrev pub AreStamped : Bool → ℕ → List Entry → Type 0
AreStamped added calls entries = (k : ℕ) (e : Entry) → k < stamped_count added entries
    → (get_or entries k e).stamp ≤ calls

-- the last entry has this stamp
abbrev pub with_last_stamped : ℕ → List Entry → List Entry
with_last_stamped stamp [] = []
with_last_stamped stamp (e ∷ []) = stamped stamp e ∷ []
with_last_stamped stamp (e ∷ f ∷ more) = e ∷ with_last_stamped stamp (f ∷ more)
