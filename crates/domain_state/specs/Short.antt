-- Want of pages, for which a command may be answered no-space.
use Rattle.std.specs.Prelude.{◌≡◌, ◌<◌, ℕ, List, Option}
use Rattle.no_faults.specs.page_store.Pages.{Pages}
use Rattle.no_faults.specs.fileset_model.Filesets.{FilesetMap}
use Rattle.no_faults.specs.fileset_values.declared.command.Command.{Command}
use Rattle.no_faults.specs.fileset_values.declared.entry.Entry.{Entry}
use Rattle.no_faults.specs.fileset_values.declared.reply.Refusal.TheVariants.{NoSpace}
use Rattle.no_faults.specs.fileset_values.declared.reply.Reply.{Reply}
use Rattle.no_faults.specs.fileset_values.declared.reply.Reply.TheVariants.{Refused}
use Rattle.no_faults.specs.legal_histories.Point.{Point, Tight}
use Rattle.no_faults.specs.legal_histories.State.{State}
use Rattle.no_faults.specs.legal_histories.GoingOn.{ComesTo}
use Rattle.no_faults.specs.domain_layout.Reached.{Frame}
use Rattle.no_faults.specs.domain_memory.Going.{NoneWaits, NothingGoes, free_in}
use Rattle.no_faults.specs.domain_memory.Staged.{IsSettled}
use Rattle.no_faults.specs.domain_memory.declared.memory.DomainMemory.{DomainMemory}
use Rattle.domain_state.specs.Opening.{IsStartOf}

-- with no change laid over memory, `free` pages are free, which is fewer than `need`; no page
-- waits, and nothing on the list may be let go of, nor anything of what is being removed
pub record IsShort (memory : DomainMemory) (free need : ℕ) : Type 0 where
  pub settled : IsSettled memory
  pub is_free : free ≡ free_in memory
  pub few : free < need
  pub none_waits : NoneWaits memory.space
  pub none_goes : NothingGoes memory

-- a reply that tells of too few pages has its cause in memory
abbrev pub HasCause : DomainMemory → Reply → Type 0
HasCause memory reply = (free need : ℕ) → reply ≡ Refused (NoSpace free need)
    → IsShort memory free need

-- a reply does not tell of want of pages
abbrev pub HadPages : Reply → Type 0
HadPages reply = (free need : ℕ) → ¬ (reply ≡ Refused (NoSpace free need))

-- ** Where the open members lack pages

-- wherever this history may have come with these filesets, from a state that the pages at the
-- opening mean, the open members have fewer pages than may be needed plus `more`
abbrev pub MayLackPages : Pages → Frame → List ℕ → List Entry → Option Command → FilesetMap → ℕ
    → Type 0
MayLackPages pages frame sizes history job all more = (start : State)
    → IsStartOf pages frame sizes start → (point : Point) → ComesTo start history job point
    → point.state ≡ record start { filesets = all } → Tight point point.state more
