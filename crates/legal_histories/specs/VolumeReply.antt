-- What the commands on volumes may answer and change.
use Rattle.std.specs.Prelude.{◌≡◌, ◌≢◌, ◌⊎◌, ℕ, ◌+◌, ◌*◌, ◌<◌, ◌≤◌, Bool, true, false, List, All, Contains, MatchOption, if◌then◌else◌}
use Rattle.std.specs.Option.{option_map_or, option_to_list}
use Rattle.std.specs.FinMap as map
use Rattle.fileset_model.specs.domain_base.Limits.{log_pages}
use Rattle.fileset_model.specs.domain_base.declared.version.Version.TheVariants.{Four}
use Rattle.legal_histories.specs.Changed.{at}
use Rattle.legal_histories.specs.Point.{Point, changed_in, peak, since_mover}
use Rattle.legal_histories.specs.State.{Member, State}
use Rattle.legal_histories.specs.Volumes.{Removes, ShowsExtents, ShowsMembers, open_members, pages_at, pages_together, volume_refusal, with_member, with_open, with_stripe}
use Rattle.fileset_model.specs.fileset_values.declared.command.Command.{Command}
use Rattle.fileset_model.specs.fileset_values.declared.command.Command.TheVariants.{Showfdmn, Showfile, Migrate, Balance, Addvol, Rmvol, ChvolA, Switchlog, Upgrade, Stripe, Defragment}
use Rattle.fileset_model.specs.fileset_values.declared.command.Place.{Place}
use Rattle.fileset_model.specs.fileset_values.declared.reply.ExtentItem.{ExtentItem}
use Rattle.fileset_model.specs.fileset_values.declared.reply.Reply.{Reply}
use Rattle.fileset_model.specs.fileset_values.declared.reply.Reply.TheVariants.{Done, Count, Extents, Volumes, Refused}
use Rattle.fileset_model.specs.fileset_values.declared.reply.Refusal.TheVariants.{NoRoom, Unsettled}
use Rattle.fileset_model.specs.fileset_values.declared.reply.VolumeItem.{VolumeItem}

-- whether a command is the mover's
abbrev pub is_movers : Command → Bool
is_movers (Migrate place first count from to) = true
is_movers Balance = true
is_movers (Addvol vol) = true
is_movers (Rmvol vol) = true
is_movers (ChvolA vol) = true
is_movers (Switchlog vol) = true
is_movers Upgrade = true
is_movers (Defragment place) = true
is_movers command = false

-- the state by which a command is refused: for the mover's that in which its job began
abbrev pub judged_in : Point → Command → State
judged_in point command =
    if is_movers command then option_map_or (λ job. job.began) point.job point.state
    else point.state

-- ---- want of room on the volumes that may take pages: the history knows no free pages, but the
-- sizes of these volumes

abbrev pub member_alone : State → ℕ → List Member
member_alone s vol = option_to_list (map.get s.members vol)

-- the open members but for this one
abbrev pub open_others : State → ℕ → List Member
open_others s vol = open_members (map.remove s.members vol)

-- no page is free on the targets, which together have fewer than may be needed
pub record NoPages (point : Point) (vol : ℕ) (targets : List Member) (reply : Reply) : Type 0 where
  pub answer : reply ≡ Refused (NoRoom vol 0)
  pub few : pages_together targets < peak point + 16

-- the longest free run of the targets is too short for the log, and each has fewer pages than would
-- leave it one
pub record NoRun (point : Point) (vol : ℕ) (targets : List Member) (reply : Reply) : Type 0 where
  pub longest : ℕ
  pub answer : reply ≡ Refused (NoRoom vol longest)
  pub short : longest < log_pages
  pub few : All (λ member. member.pages < (log_pages + 1) * (peak point + 1)) targets

-- ---- what is answered if the state refuses nothing

abbrev pub IsCount : Reply → Type 0
IsCount reply = (count : ℕ) × (reply ≡ Count count)

-- the pages that a domain uses which was just made: label, anchors, bitmap, one page of mcells, the
-- log and the fileset table
abbrev pub new_domain_pages : ℕ
new_domain_pages = 133

-- as many pages were moved as were used, which are at least those of a new domain and at most those
-- of the members
pub record IsUneven (s : State) (reply : Reply) : Type 0 where
  pub moved : ℕ
  pub answer : reply ≡ Refused (Unsettled moved)
  pub used : new_domain_pages ≤ moved
  pub within : moved ≤ pages_together (map.values s.members)

-- a client has changed what stands at the place since the mover's last entry
pub record WasDisturbed (point : Point) (place : Place) (reply : Reply) : Type 0 where
  pub moved : ℕ
  pub answer : reply ≡ Refused (Unsettled moved)
  pub number : ℕ
  pub file : Contains
      (at (judged_in point (Defragment place)).filesets place.fileset place.path)
      (place.fileset, number)
  pub changed : Contains (changed_in (since_mover point)) (place.fileset, number)

-- the answer of a command on volumes at a point, and the state after it
abbrev pub Carries : Point → Command → Reply → State → Type 0
Carries point Showfdmn reply new =
    (new ≡ point.state)
    × ((lines : List VolumeItem) × (reply ≡ Volumes lines) × ShowsMembers point.state lines)
Carries point (Showfile place) reply new =
    (new ≡ point.state)
    × ((runs : List ExtentItem) × (reply ≡ Extents runs)
    × ShowsExtents point.state.members (pages_at point.state.filesets place) runs)
Carries point (Stripe width place) reply new =
    (reply ≡ Done) × (new ≡ with_stripe place point.state)
Carries point (Migrate place first count from to) reply new =
    (new ≡ point.state) × (IsCount reply ⊎ NoPages point to (member_alone point.state to) reply)
Carries point Balance reply new = (new ≡ point.state) × (IsCount reply ⊎ IsUneven point.state reply)
Carries point (Addvol vol) reply new = (reply ≡ Done) × (new ≡ with_member vol point.state)
Carries point (ChvolA vol) reply new = (reply ≡ Done) × (new ≡ with_open true vol point.state)
Carries point (Switchlog vol) reply new =
    ((reply ≡ Done) × (new ≡ record point.state { log_volume = vol }))
    ⊎ ((point.state.log_volume ≢ vol) × NoRun point vol (member_alone point.state vol) reply
    × (new ≡ point.state))
Carries point (Rmvol vol) reply new =
    ((reply ≡ Done) × Removes vol point.state new)
    ⊎ (IsFull × (new ≡ with_open false vol point.state))
  where
    IsFull : Type 0
    IsFull = NoPages point vol (open_others point.state vol) reply
        ⊎ ((point.state.log_volume ≡ vol) × NoRun point vol (open_others point.state vol) reply)
Carries point Upgrade reply new = (reply ≡ Done) × (new ≡ record point.state { version = Four })
Carries point (Defragment place) reply new =
    (new ≡ point.state) × (IsCount reply ⊎ WasDisturbed point place reply)
Carries point command reply new = ⊥

-- the first refusal by the state, and then nothing changes, or else what the command carries out
abbrev pub VolumeReply : Point → Command → Reply → State → Type 0
VolumeReply point command reply new =
    MatchOption (volume_refusal (judged_in point command) command)
    (Carries point command reply new)
    (λ refusal. (reply ≡ Refused refusal) × (new ≡ point.state))
