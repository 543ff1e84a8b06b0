-- Commands that look at what a path leads to, and change nothing.
use Rattle.std.specs.Prelude.{◌≡◌, ◌∷◌, ℕ, List, None, Option, Result, Ok, Err, Some}
use Rattle.std.specs.FinMap.{get}
use Rattle.domain_changes.specs.domain_base.declared.place.Kind.{Kind}
use Rattle.domain_changes.specs.domain_base.declared.place.Tag.{Tag}
use Rattle.domain_changes.specs.fileset_model.Apply.{answer_of, in_fileset, refusal_of}
use Rattle.domain_changes.specs.fileset_model.Filesets.{FilesetMap}
use Rattle.domain_changes.specs.fileset_model.Paths.{target_refusal}
use Rattle.domain_changes.specs.fileset_values.declared.command.Command.{Command}
use Rattle.domain_changes.specs.fileset_values.declared.command.Place.{Place}
use Rattle.domain_changes.specs.fileset_model.declared.fileset.FilesetSlot.{FilesetSlot}
use Rattle.domain_changes.specs.fileset_model.declared.fileset.Role.TheVariants.{Original}
use Rattle.domain_changes.specs.fileset_values.declared.reply.Refusal.{Refusal}
use Rattle.domain_changes.specs.fileset_values.declared.reply.Reply.{Reply}
use Rattle.domain_changes.specs.fileset_table.declared.slot.FilesetEntry.{FilesetEntry}
use Rattle.domain_changes.specs.domain_memory.Memory.{StandsFor}
use Rattle.domain_changes.specs.domain_memory.declared.memory.DomainMemory.{DomainMemory}
use Rattle.name_changes.specs.Looking.{LeadsTo}
use Rattle.name_changes.specs.Stages.{HasFileset}
use Rattle.name_commands.specs.Ending.{StopsAs, StopsWith}
use Rattle.name_commands.specs.declared.stop.Stop.{Stop}

-- the fileset of a place is an original, and the path leads to what a tag names in this slot
pub record IsPlaced (memory : DomainMemory) (all : FilesetMap) (place : Place) (number : ℕ)
    (tag : Tag) (of : Kind) : Type 0 where
  pub entry : FilesetEntry
  pub named : entry.name ≡ place.fileset
  pub fileset : FilesetSlot
  pub has : HasFileset memory number all entry fileset
  pub here : get all place.fileset ≡ Some fileset
  pub role : fileset.role ≡ Original
  pub leads : LeadsTo place.path fileset tag of

-- the tag is at some place in some filesets that memory stands for
pub record IsPlacedForSome (memory : DomainMemory) (number : ℕ) (tag : Tag) (of : Kind) : Type 0
  where
    pub all : FilesetMap
    pub stands : StandsFor memory all
    pub place : Place
    pub placed : IsPlaced memory all place number tag of

-- no path leads there, whatever is asked after that
abbrev pub IsLost : FilesetMap → Place → Stop → Type 0
IsLost all place stop = (more : FilesetSlot → List (Option Refusal)) → StopsWith
    (in_fileset all place.fileset (λ slot. target_refusal slot place.path ∷ more slot)) stop

-- a command is not refused, and has this answer; or stops
abbrev pub RepliesAs : FilesetMap → Command → Result Reply Stop → Type 0
RepliesAs all command (Ok reply) =
    (refusal_of all command ≡ None) × (reply ≡ answer_of all command)
RepliesAs all command (Err stop) = StopsAs all command stop
