-- What the filesets may be after a stop.
use Rattle.std.specs.Prelude.{◌≡◌, ◌⊎◌, ℕ, ◌/◌, ◌%◌, ◌==◌, ◌&&◌, ◌≤◌, ◌++◌, nat_le, not, Bool, true, false, List, [], ◌∷◌, length, map as map_list, suc, All, Contains, IsSomeAnd, Option, Some, None, if◌then◌else◌}
use Rattle.std.specs.Option.{option_map, option_map_or}
use Rattle.std.specs.List.{before_last, list_any}
use Rattle.std.specs.FinMap as map
use Rattle.fileset_model.specs.domain_base.declared.limits.TheConstants.{PAGE_BYTES}
use Rattle.legal_histories.specs.Changed.{at}
use Rattle.fileset_model.specs.Fileset.{Fileset}
use Rattle.legal_histories.specs.Legal.{Chain}
use Rattle.fileset_model.specs.LooksLike.{LooksLike}
use Rattle.fileset_model.specs.fileset_values.Orders.{Name}
use Rattle.fileset_model.specs.Pages.{Pages, pages_of}
use Rattle.fileset_model.specs.Paths.{same_name}
use Rattle.legal_histories.specs.Point.{Answered, Point, history_of, running_job, start_point}
use Rattle.fileset_model.specs.Filesets.{FilesetMap}
use Rattle.legal_histories.specs.State.{Apply, State}
use Rattle.fileset_model.specs.fileset_values.declared.command.Actor.{Actor}
use Rattle.fileset_model.specs.fileset_values.declared.command.Actor.TheVariants.{Client, Mover}
use Rattle.fileset_model.specs.fileset_values.declared.command.Command.{Command}
use Rattle.fileset_model.specs.fileset_values.declared.command.Command.TheVariants.{Write, Truncate, Clonefset, Fsync, Chfile, Sync, Addvol, Rmvol, ChvolA, Switchlog, Upgrade}
use Rattle.fileset_model.specs.fileset_values.declared.command.Place.{Place}
use Rattle.fileset_model.specs.fileset_values.declared.entry.Entry.{Entry}
use Rattle.fileset_model.specs.declared.fileset.FilesetSlot.{FilesetSlot}
use Rattle.fileset_model.specs.declared.fileset.Role.{Role}
use Rattle.fileset_model.specs.declared.fileset.Role.TheVariants.{Original, CloneOf}
use Rattle.fileset_model.specs.declared.node.Node.{Node}
use Rattle.fileset_model.specs.declared.node.Node.TheVariants.{File, Directory}
use Rattle.fileset_model.specs.fileset_values.declared.reply.Refusal.TheVariants.{Panicked}
use Rattle.fileset_model.specs.fileset_values.declared.reply.Reply.{Reply}
use Rattle.fileset_model.specs.fileset_values.declared.reply.Reply.TheVariants.{Done, Refused}

-- ---- what a stop keeps

-- whether a command that answered Done, with all before it, outlasts a stop
abbrev pub is_synced_command : Command → Bool
is_synced_command Sync = true
is_synced_command (Fsync place) = true
is_synced_command (Clonefset fileset new_name) = true
is_synced_command (Chfile place logged) = true
is_synced_command (Addvol vol) = true
is_synced_command (Rmvol vol) = true
is_synced_command (ChvolA vol) = true
is_synced_command (Switchlog vol) = true
is_synced_command Upgrade = true
is_synced_command command = false

abbrev pub is_done : Reply → Bool
is_done Done = true
is_done reply = false

-- whether an entry answered Done by call t
abbrev pub is_done_by : ℕ → Entry → Bool
is_done_by t e = is_done e.reply && nat_le e.stamp t

abbrev pub is_synced_by : ℕ → Entry → Bool
is_synced_by t e = is_synced_command e.command && is_done_by t e

-- the place, counted from 1, of the last entry that is synced by call t, and 0 if none is
abbrev pub kept : List Entry → ℕ → ℕ
kept history t =
    if list_any (is_synced_by t) history
    then suc (length (before_last (is_synced_by t) history)) else 0

-- none of these was answered by panicked
abbrev pub HasNoPanic : List Answered → Type 0
HasNoPanic past =
    (volume : ℕ) → ¬ (Contains (map_list (λ a. a.entry.reply) past) (Refused (Panicked volume)))

-- ---- loose pages

-- a page of an original's file: the name, the number and the page
abbrev pub FilePage : Type 0
FilePage = Name × ℕ × ℕ

-- the pages, chosen by the file, of a file that is not logged
abbrev pub unlogged_pages : FilesetMap → Place → (ℕ → Pages → List ℕ) → List FilePage
unlogged_pages all place choose =
    option_map_or
    (λ slot. option_map_or
    (λ number. option_map_or (of number) (map.get slot.tree.nodes number) [])
    (map.get slot.tree.paths place.path) [])
    (map.get all place.fileset) []
  where
    of : ℕ → Node → List FilePage
    of number (File uid gid size logged pages) =
        if logged then [] else map_list (λ q. (place.fileset, number, q)) (choose size pages)
    of number (Directory uid gid) = []

-- the page in which a file is cut, also if it grows, since bytes may stand after its end
abbrev pub cut_pages : ℕ → Pages → List ℕ
cut_pages size pages =
    let q = size / PAGE_BYTES in
    if not (size % PAGE_BYTES == 0) && map.contains_key pages q then q ∷ [] else []

-- the pages of files that are not logged that a command writes
abbrev pub pages_written : FilesetMap → Command → List FilePage
pages_written all (Write place offset bytes) =
    unlogged_pages all place (λ size pages. pages_of offset (length bytes))
pages_written all (Truncate place size) =
    unlogged_pages all place (λ old_size pages. cut_pages size pages)
pages_written all command = []

-- whether a place leads to the file of a page
abbrev pub stands_at : FilesetMap → Place → FilePage → Bool
stands_at all place file =
    list_any (λ n. same_name n.0 file.0 && (n.1 == file.1)) (at all place.fileset place.path)

-- whether a command that answers Done syncs the file of a page
abbrev pub syncs_file : FilesetMap → Command → FilePage → Bool
syncs_file all Sync file = true
syncs_file all (Clonefset fileset new_name) file = same_name fileset file.0
syncs_file all (Fsync place) file = stands_at all place file
syncs_file all (Chfile place logged) file = stands_at all place file
syncs_file all command file = false

-- a command that was answered so after these may have written its pages: it was not refused, or it
-- is the first that panicked
abbrev pub MayHaveWritten : List Answered → Reply → Type 0
MayHaveWritten before (Refused (Panicked volume)) = HasNoPanic before
MayHaveWritten before (Refused refusal) = ⊥
MayHaveWritten before reply = Unit {0}

-- a page that an entry wrote while its file was not logged, and that no entry after it synced by
-- call t
pub record IsLoose (past : List Answered) (t : ℕ) (page : FilePage) : Type 0 where
  pub before : List Answered
  pub writer : Answered
  pub after : List Answered
  pub split : past ≡ before ++ writer ∷ after
  pub answered : MayHaveWritten before writer.entry.reply
  pub wrote : Contains (pages_written writer.before.filesets writer.entry.command) page
  pub unsynced : All
      (λ a. (is_done_by t a.entry && syncs_file a.before.filesets a.entry.command page) ≡ false)
      after

-- ---- filesets that differ in the bytes of loose pages alone

-- the same page, or other bytes where these may differ
abbrev pub SamePage : Type 0 → Option (List ℕ) → Option (List ℕ) → Type 0
SamePage MayDiffer None found = found ≡ None
SamePage MayDiffer (Some page) found =
    IsSomeAnd found (λ other. (length other ≡ length page) × ((other ≡ page) ⊎ MayDiffer))

-- the same node, but for the bytes of its pages that may differ
abbrev pub SameNode : (ℕ → Type 0) → Node → Node → Type 0
SameNode MayDiffer (File uid gid size logged pages) (File uid' gid' size' logged' pages') =
    (uid' ≡ uid) × (gid' ≡ gid) × (size' ≡ size) × (logged' ≡ logged)
    × ((q : ℕ) → SamePage (MayDiffer q) (map.get pages q) (map.get pages' q))
SameNode MayDiffer node other = other ≡ node

abbrev pub SameNodeThere : (ℕ → Type 0) → Option Node → Option Node → Type 0
SameNodeThere MayDiffer None found = found ≡ None
SameNodeThere MayDiffer (Some node) found = IsSomeAnd found (SameNode MayDiffer node)

pub record SameTree (MayDiffer : ℕ → ℕ → Type 0) (tree other : Fileset) : Type 0 where
  pub paths : other.paths ≡ tree.paths
  pub limits : other.limits ≡ tree.limits
  pub nodes : (number : ℕ)
      → SameNodeThere (MayDiffer number) (map.get tree.nodes number) (map.get other.nodes number)

-- the files of an original but for such bytes, and those of a clone exactly
abbrev pub SameByRole : (ℕ → ℕ → Type 0) → Role → Fileset → Fileset → Type 0
SameByRole MayDiffer Original tree other = SameTree MayDiffer tree other
SameByRole MayDiffer (CloneOf original out) tree other = other ≡ tree

abbrev pub SameSlot : (ℕ → ℕ → Type 0) → Option FilesetSlot → Option FilesetSlot → Type 0
SameSlot MayDiffer None found = found ≡ None
SameSlot MayDiffer (Some slot) found =
    IsSomeAnd found
    (λ other. (other.role ≡ slot.role) × SameByRole MayDiffer slot.role slot.tree other.tree)

-- the same filesets, but for the bytes of pages of originals that may differ
abbrev pub SameBut : (FilePage → Type 0) → FilesetMap → FilesetMap → Type 0
SameBut MayDiffer all other =
    (name : Name)
    → SameSlot (λ number q. MayDiffer (name, number, q)) (map.get all name) (map.get other name)

-- ---- what is found

-- the command of the mover's first entry among these, and if it has none, the job that runs in the
-- end
abbrev pub next_job : List Entry → Option Command → Option Command
next_job [] job = job
next_job (e ∷ rest) job = of e.actor (next_job rest job)
  where
    of : Actor → Option Command → Option Command
    of (Client number) later = later
    of Mover later = Some e.command

-- a point at which a job of this command runs
abbrev pub with_running : Option Command → Point → Point
with_running job point = record point {
  job = option_map (λ command. record { command = command; began = point.state }) job;
}

-- what happens between entries may lead from a point to this state
pub record Settles (point : Point) (state : State) : Type 0 where
  pub last : Point
  pub chain : Chain point last
  pub no_entry : last.past ≡ point.past
  pub same_job : last.job ≡ point.job
  pub ends : last.state ≡ state

-- the state in which a stop finds a domain that goes on from a front by some entries, with the job
-- that runs in the end: the one there, or, if the next entry is the first that panicked, the one
-- before it with its command done
pub data Found (front : Point) (later : List Answered) (job : Option Command) (state : State)
    : Type 0 where
  there : Settles (with_running (next_job (history_of later) job) front) state
      → Found front later job state
  done : (next : Answered) (rest : List Answered) (volume : ℕ)
      → later ≡ next ∷ rest → next.entry.reply ≡ Refused (Panicked volume)
      → HasNoPanic front.past
      → (reply : Reply) (mid : State) → Apply next.before next.entry.command reply mid
      → Settles
      (with_running (next_job (history_of later) job) (record front { state = mid })) state
      → Found front later job state

-- what the filesets may be after a stop at or after call t in a domain with this start, history and
-- running job: those after a front of the history that has each synced entry, but for the bytes of
-- loose pages, as far as replies show
pub record AfterStop (start : State) (history : List Entry) (job : Option Command) (t : ℕ)
    (filesets : FilesetMap) : Type 0 where
  pub front : Point
  pub end : Point
  pub later : List Answered
  pub begun : Chain (start_point start) front
  pub goes_on : Chain front end
  pub split : end.past ≡ front.past ++ later
  pub whole : history_of end.past ≡ history
  pub running : running_job end ≡ job
  pub synced : kept history t ≤ length front.past
  pub state : State
  pub found : Found front later job state
  pub left : FilesetMap
  pub same : SameBut (IsLoose end.past t) state.filesets left
  pub looks : LooksLike left filesets
