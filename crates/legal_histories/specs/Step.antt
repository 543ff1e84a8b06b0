-- What may happen between two entries, and what an entry may answer and change.
use Rattle.std.specs.Prelude.{◌≡◌, ◌≢◌, ◌⊎◌, ℕ, ◌<◌, false, Any, Contains, IsTrue, Option, Some, None, [], ◌∷◌, length, ◌≤◌}
use Rattle.std.specs.FinMap as map
use Rattle.fileset_model.specs.domain_base.declared.version.Version.TheVariants.{Four}
use Rattle.fileset_model.specs.Apply.{refusal_of}
use Rattle.legal_histories.specs.Changed.{changed_by_entry}
use Rattle.legal_histories.specs.Marks.{Differs, GainsMarks}
use Rattle.fileset_model.specs.fileset_values.Orders.{Name}
use Rattle.fileset_model.specs.Pages.{pages_of}
use Rattle.fileset_model.specs.Paths.{first_refusal}
use Rattle.legal_histories.specs.Point.{Answered, Point, Tight, changed_in, running_job, since_mover}
use Rattle.legal_histories.specs.Room.{need}
use Rattle.fileset_model.specs.Filesets.{FilesetMap}
use Rattle.legal_histories.specs.State.{Apply, State}
use Rattle.legal_histories.specs.VolumeReply.{VolumeReply, judged_in}
use Rattle.legal_histories.specs.Volumes.{is_open_member, pages_at, volume_refusal, with_open}
use Rattle.fileset_model.specs.fileset_values.declared.command.Command.{Command}
use Rattle.fileset_model.specs.fileset_values.declared.command.Command.TheVariants.{Mkfset, Clonefset, Setquota, Create, Mkdir, Link, Rename, Write, Stripe, Migrate, Balance, Rmvol, Upgrade, Defragment, Cancel}
use Rattle.fileset_model.specs.fileset_values.declared.command.Actor.TheVariants.{Client}
use Rattle.fileset_model.specs.fileset_values.declared.entry.Entry.{Entry}
use Rattle.fileset_model.specs.declared.fileset.FilesetSlot.{FilesetSlot}
use Rattle.fileset_model.specs.fileset_values.declared.reply.Refusal.{Refusal}
use Rattle.fileset_model.specs.fileset_values.declared.reply.Refusal.TheVariants.{NoSpace, ReadFault, Panicked, Cancelled, OutOfMemory}
use Rattle.fileset_model.specs.fileset_values.declared.reply.Reply.TheVariants.{Done, Refused}

-- a number of an original that an entry changed, or that the original no longer has as the clone
-- has it
abbrev pub MayBeMarked : Point → Name → FilesetSlot → ℕ → Type 0
MayBeMarked point original clone number =
    Differs point.state.filesets original clone number
    ⊎ Contains (changed_in point.past) (original, number)

-- a volume that the running job is to remove: a member, and not the only one
pub record IsRemoving (point : Point) (vol : ℕ) : Type 0 where
  pub job : running_job point ≡ Some (Rmvol vol)
  pub member : IsTrue (map.contains_key point.state.members vol)
  pub others : 2 ≤ map.len point.state.members

-- what may happen between entries
pub data Silent (point : Point) (new : State) : Type 0 where
  -- for want of pages clones lose what an entry changed, or what their originals no longer have
  marks : GainsMarks (MayBeMarked point) point.state.filesets new.filesets → Tight point new 16
      → new ≡ record point.state { filesets = new.filesets } → Silent point new
  -- a volume that is to be removed takes no more pages
  closes : (vol : ℕ) → IsRemoving point vol → new ≡ with_open false vol point.state
      → Silent point new
  -- the log leaves it for another open member
  log_leaves : (vol other : ℕ) → IsRemoving point vol → point.state.log_volume ≡ vol → other ≢ vol
      → IsTrue (is_open_member point.state.members other)
      → new ≡ record point.state { log_volume = other } → Silent point new
  -- the domain is of version 4
  upgrades : running_job point ≡ Some Upgrade → new ≡ record point.state { version = Four }
      → Silent point new

-- ---- entries

-- whether a command may answer no-space in these filesets: one that makes or takes something, a
-- write that has an absent page
abbrev pub TakesSpace : FilesetMap → Command → Type 0
TakesSpace all (Mkfset fileset) = Unit {0}
TakesSpace all (Clonefset fileset new_name) = Unit {0}
TakesSpace all (Setquota fileset who files blocks) = Unit {0}
TakesSpace all (Create place uid gid) = Unit {0}
TakesSpace all (Mkdir place uid gid) = Unit {0}
TakesSpace all (Link place to) = Unit {0}
TakesSpace all (Rename place to) = Unit {0}
TakesSpace all (Stripe width place) = Unit {0}
TakesSpace all (Write place offset bytes) =
    Any
    (λ q. map.contains_key (pages_at all place) q ≡ false)
    (pages_of offset (length bytes))
TakesSpace all command = ⊥

-- the first refusal by the state of any command
abbrev pub refusal_in : State → Command → Option Refusal
refusal_in s command = first_refusal (refusal_of s.filesets command ∷ volume_refusal s command ∷ [])

-- the mover's commands that `cancel` stops
abbrev pub MayBeCancelled : Command → Type 0
MayBeCancelled (Migrate place first count from to) = Unit {0}
MayBeCancelled Balance = Unit {0}
MayBeCancelled (Rmvol vol) = Unit {0}
MayBeCancelled (Defragment place) = Unit {0}
MayBeCancelled command = ⊥

-- a client has asked to cancel since the mover's last entry
pub record WasCancelled (point : Point) : Type 0 where
  pub asked : Answered
  pub since : Contains (since_mover point) asked
  pub client : ℕ
  pub actor : asked.entry.actor ≡ Client client
  pub command : asked.entry.command ≡ Cancel
  pub done : asked.entry.reply ≡ Done

-- a cancelled removal leaves its volume a member that takes no more pages
abbrev pub after_cancel : Command → State → State
after_cancel (Rmvol vol) s = with_open false vol s
after_cancel command s = s

-- what an entry may answer and change
pub data Step (point : Point) (e : Entry) (new : State) : Type 0 where
  -- what its command means for the filesets; for want of pages clones may lose numbers that it
  -- changes
  applied : (mid : State) → Apply point.state e.command e.reply mid
      → GainsMarks
      (λ original clone number.
      Contains (changed_by_entry point.state.filesets e) (original, number))
      mid.filesets new.filesets
      → (new.filesets ≡ mid.filesets) ⊎ Tight point new (need e.command)
      → new ≡ record mid { filesets = new.filesets }
      → Step point e new
  -- what its command means for the volumes
  on_volumes : VolumeReply point e.command e.reply new → Step point e new
  -- fewer pages are free than the command may need, and nothing changes
  no_space : (free : ℕ) → e.reply ≡ Refused (NoSpace free (need e.command)) → free < need e.command
      → TakesSpace point.state.filesets e.command → refusal_in point.state e.command ≡ None
      → Tight point new (need e.command) → new ≡ point.state
      → Step point e new
  -- a read of a volume failed, and nothing changes
  read_fault : (volume : ℕ) → e.reply ≡ Refused (ReadFault volume) → new ≡ point.state
      → Step point e new
  -- a write or a sync of a volume failed, and nothing changes
  panicked : (volume : ℕ) → e.reply ≡ Refused (Panicked volume) → new ≡ point.state
      → Step point e new
  -- the job, which was not refused when it began, was cancelled
  cancelled : MayBeCancelled e.command → WasCancelled point
      → volume_refusal (judged_in point e.command) e.command ≡ None
      → e.reply ≡ Refused Cancelled
      → new ≡ after_cancel e.command point.state → Step point e new
  -- no memory could be had, and nothing changes
  out_of_memory : e.reply ≡ Refused OutOfMemory → new ≡ point.state → Step point e new
