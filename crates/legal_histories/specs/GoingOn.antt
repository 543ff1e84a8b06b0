-- A legal history that goes on by one entry more.
use Rattle.std.specs.Prelude.{◌≡◌, ℕ, List, Option, Some, None}
use Rattle.std.specs.FinMap as map
use Rattle.fileset_model.specs.Filesets.{FilesetMap}
use Rattle.fileset_model.specs.fileset_values.Orders.{Name}
use Rattle.fileset_model.specs.fileset_values.declared.command.Actor.{Actor}
use Rattle.fileset_model.specs.fileset_values.declared.command.Actor.TheVariants.{Client, Mover}
use Rattle.fileset_model.specs.fileset_values.declared.command.Command.{Command}
use Rattle.fileset_model.specs.fileset_values.declared.entry.Entry.{Entry}
use Rattle.fileset_model.specs.declared.fileset.FilesetSlot.{FilesetSlot}
use Rattle.fileset_model.specs.declared.fileset.Role.TheVariants.{Original}
use Rattle.legal_histories.specs.Legal.{Chain, MayFollow}
use Rattle.legal_histories.specs.Point.{Point, history_of, running_job, start_point}
use Rattle.legal_histories.specs.State.{LooksLikeState, State}
use Rattle.legal_histories.specs.Step.{Step}

-- the mover's command that runs on after an entry: its own entry ends it
abbrev pub job_left : Actor → Option Command → Option Command
job_left (Client number) job = job
job_left Mover job = None

-- a history may have come to a point, with this command of the mover's still running
pub record ComesTo (start : State) (history : List Entry) (job : Option Command) (point : Point)
    : Type 0 where
  pub chain : Chain (start_point start) point
  pub answered : history_of point.past ≡ history
  pub running : running_job point ≡ job

-- an entry may come next at a point, and lead to a state that looks like this one
pub record LeadsOn (point : Point) (e : Entry) (new : State) : Type 0 where
  pub end : State
  pub follows : MayFollow point e
  pub step : Step point e end
  pub looks : LooksLikeState end new

-- it may go on so at each point to which the history may have come and whose state looks like this
-- one
abbrev pub MayGoOn : State → List Entry → Option Command → State → Entry → State → Type 0
MayGoOn start history job now e new = (point : Point) → ComesTo start history job point
    → LooksLikeState point.state now → LeadsOn point e new

-- it may go on so at each point to which the history may have come and whose state is this one
abbrev pub MayGoOnFrom : State → List Entry → Option Command → State → Entry → State → Type 0
MayGoOnFrom start history job now e new = (point : Point) → ComesTo start history job point
    → point.state ≡ now → LeadsOn point e new

-- filesets, none of them a clone
abbrev pub HaveNoClone : FilesetMap → Type 0
HaveNoClone all = (name : Name) (slot : FilesetSlot) → map.get all name ≡ Some slot
    → slot.role ≡ Original

-- an entry with this stamp
abbrev pub stamped : ℕ → Entry → Entry
stamped stamp e = record e { stamp = stamp }
