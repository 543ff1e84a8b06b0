-- Which histories are legal: chains of states that lead from a first one over the entries.
use Rattle.std.specs.Prelude.{◌≡◌, ℕ, ◌≤◌, List, map, All, Contains, IsTrue, false, Option, Some, None}
use Rattle.legal_histories.specs.State.{LooksLikeState}
use Rattle.legal_histories.specs.Point.{Point, history_of, point_after, running_job, start_point}
use Rattle.legal_histories.specs.State.{State}
use Rattle.legal_histories.specs.Step.{Silent, Step}
use Rattle.legal_histories.specs.VolumeReply.{is_movers}
use Rattle.fileset_model.specs.fileset_values.declared.command.Actor.{Actor}
use Rattle.fileset_model.specs.fileset_values.declared.command.Actor.TheVariants.{Client, Mover}
use Rattle.fileset_model.specs.fileset_values.declared.command.Command.{Command}
use Rattle.fileset_model.specs.fileset_values.declared.entry.Entry.{Entry}
use Rattle.fileset_model.specs.fileset_values.declared.reply.Refusal.TheVariants.{Panicked}
use Rattle.fileset_model.specs.fileset_values.declared.reply.Reply.TheVariants.{Refused}

-- an entry of the mover's is for the job that runs, and a client's is for no mover's command
abbrev pub IsForActor : Actor → Command → Option Command → Type 0
IsForActor (Client number) command job = is_movers command ≡ false
IsForActor Mover command job = job ≡ Some command

-- an entry may come next: its stamp is no smaller than any before, and from the first panicked
-- reply on all are panicked, with that volume
pub record MayFollow (point : Point) (e : Entry) : Type 0 where
  pub stamp : All (λ before. before.stamp ≤ e.stamp) (history_of point.past)
  pub panicked : (volume : ℕ)
      → Contains (map (λ before. before.reply) (history_of point.past)) (Refused (Panicked volume))
      → e.reply ≡ Refused (Panicked volume)
  pub actor : IsForActor e.actor e.command (running_job point)

-- steps that lead from one point to another, in the order of time
pub data Chain (start : Point) : Point → Type 0 where
  stays : Chain start start
  -- the mover begins a job, at some place after its last entry
  begin : {point : Point} → Chain start point → point.job ≡ None
      → (command : Command) → IsTrue (is_movers command)
      → Chain start
      (record point { job = Some (record { command = command; began = point.state }) })
  -- something happens between entries
  silent : {point : Point} → Chain start point → (new : State) → Silent point new
      → Chain start (record point { state = new })
  -- one more entry is one more step
  entry : {point : Point} → Chain start point → (e : Entry) (new : State)
      → MayFollow point e → Step point e new → Chain start (point_after point e new)

-- a history may lead from the start to a state, with this command of the mover's still running
pub record Legal (start : State) (history : List Entry) (job : Option Command) (end : State)
    : Type 0 where
  pub point : Point
  pub chain : Chain (start_point start) point
  pub answered : history_of point.past ≡ history
  pub running : running_job point ≡ job
  pub ends : LooksLikeState point.state end
