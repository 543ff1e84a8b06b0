-- Where a chain of states has come to.
use Rattle.std.specs.Prelude.{ℕ, ◌+◌, ◌*◌, ◌<◌, ◌++◌, Bool, true, false, max, List, [], ◌∷◌, length, map, Option, None}
use Rattle.std.specs.Option.{option_map}
use Rattle.std.specs.List.{flat_map, after_last}
use Rattle.legal_histories.specs.Changed.{changed_by_entry}
use Rattle.legal_histories.specs.Room.{open_pages, room}
use Rattle.legal_histories.specs.State.{Numbered, State}
use Rattle.fileset_model.specs.fileset_values.declared.command.Actor.{Actor}
use Rattle.fileset_model.specs.fileset_values.declared.command.Actor.TheVariants.{Client, Mover}
use Rattle.fileset_model.specs.fileset_values.declared.command.Command.{Command}
use Rattle.fileset_model.specs.fileset_values.declared.entry.Entry.{Entry}

-- a mover's command that runs, and the state in which it began
pub record Job : Type 0 where
  pub command : Command
  pub began : State

-- an entry, and the state in which it was answered
pub record Answered : Type 0 where
  pub entry : Entry
  pub before : State

-- what was answered so far; the state now; the job that runs; and the greatest room of the states
-- at the start and after each entry
pub record Point : Type 0 where
  pub past : List Answered
  pub state : State
  pub job : Option Job
  pub most : ℕ

-- nothing was answered yet, and no job runs
abbrev pub start_point : State → Point
start_point start = record { past = []; state = start; job = None; most = room start }

abbrev pub history_of : List Answered → List Entry
history_of past = map (λ a. a.entry) past

-- the command of the job that runs
abbrev pub running_job : Point → Option Command
running_job point = option_map (λ job. job.command) point.job

-- the files and directories that entries changed
abbrev pub changed_in : List Answered → List Numbered
changed_in past = flat_map (λ a. changed_by_entry a.before.filesets a.entry) past

abbrev pub is_movers_entry : Answered → Bool
is_movers_entry a = is_mover a.entry.actor
  where
    is_mover : Actor → Bool
    is_mover (Client number) = false
    is_mover Mover = true

-- what was answered since the mover's last entry
abbrev pub since_mover : Point → List Answered
since_mover point = after_last is_movers_entry point.past

-- the job that runs after an entry: the mover's entry ends its job
abbrev pub job_after : Actor → Option Job → Option Job
job_after (Client number) job = job
job_after Mover job = None

-- the point after an entry that led to this state
abbrev pub point_after : Point → Entry → State → Point
point_after point e new = record {
  past = point.past ++ record { entry = e; before = point.state } ∷ [];
  state = new;
  job = job_after e.actor point.job;
  most = max point.most (room new);
}

-- ---- want of pages

-- the pages that may be needed at a point
abbrev pub peak : Point → ℕ
peak point = 16 * point.state.old_pages + 24 * length point.past + point.most

-- the open members of a state have fewer pages than may be needed at a point plus `more`
abbrev pub Tight : Point → State → ℕ → Type 0
Tight point s more = open_pages s < peak point + more
