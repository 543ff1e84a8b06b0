-- What the commands on volumes show, refuse and change.
use Rattle.std.specs.Prelude.{◌≡◌, ◌≢◌, ◌↔◌, ◌⊎◌, ℕ, ◌+◌, ◌==◌, ◌&&◌, ◌<◌, ◌≤◌, Bool, true, false, not, nat_lt, List, [], ◌∷◌, length, map, filter, min, sum_by, All, AllPairs, Any, IsTrue, IsSomeAnd, Option, None}
use Rattle.std.specs.Option.{option_map_or}
use Rattle.std.specs.List.{AllAdjacentBelow}
use Rattle.std.specs.FinMap as map
use Rattle.std.specs.FinSet as set
use Rattle.fileset_model.specs.domain_base.Limits.{min_volume_pages}
use Rattle.fileset_model.specs.domain_base.Version.{most_pages}
use Rattle.fileset_model.specs.Pages.{Pages}
use Rattle.fileset_model.specs.Paths.{refuse_if, first_refusal, directory_here, node_at, target_refusal}
use Rattle.fileset_model.specs.Apply.{in_fileset, out_of_sync, read_only}
use Rattle.fileset_model.specs.Filesets.{FilesetMap}
use Rattle.legal_histories.specs.State.{Member, MemberMap, State}
use Rattle.fileset_model.specs.fileset_values.declared.command.Command.{Command}
use Rattle.fileset_model.specs.fileset_values.declared.command.Command.TheVariants.{Showfile, Migrate, Addvol, Rmvol, ChvolA, Switchlog, Stripe, Defragment}
use Rattle.fileset_model.specs.fileset_values.declared.command.Place.{Place}
use Rattle.fileset_model.specs.declared.fileset.FilesetSlot.{FilesetSlot}
use Rattle.fileset_model.specs.declared.node.Node.{Node}
use Rattle.fileset_model.specs.declared.node.Node.TheVariants.{File, Directory}
use Rattle.fileset_model.specs.fileset_values.declared.reply.ExtentItem.{ExtentItem}
use Rattle.fileset_model.specs.fileset_values.declared.reply.Refusal.{Refusal}
use Rattle.fileset_model.specs.fileset_values.declared.reply.Refusal.TheVariants.{LastVolume, NotEmpty, NoVolume, Striped, VolumeSmall, VolumeTaken}
use Rattle.fileset_model.specs.fileset_values.declared.reply.VolumeItem.{VolumeItem}

-- ---- members

-- a member that takes new pages
abbrev pub is_open_member : MemberMap → ℕ → Bool
is_open_member members vol = option_map_or (λ member. member.is_open) (map.get members vol) false

abbrev pub open_members : MemberMap → List Member
open_members members = filter (λ member. member.is_open) (map.values members)

-- the pages of some members together
abbrev pub pages_together : List Member → ℕ
pages_together members = sum_by (λ member. member.pages) members

-- the pages of a volume, and 0 if the rack or the domain has no such one
abbrev pub rack_pages : State → ℕ → ℕ
rack_pages s vol = option_map_or (λ pages. pages) (map.get s.rack vol) 0

abbrev pub member_pages : State → ℕ → ℕ
member_pages s vol = option_map_or (λ member. member.pages) (map.get s.members vol) 0

-- ---- refusals

-- what the member list and the sizes of the rack's volumes refuse
abbrev pub member_refusal : State → Command → Option Refusal
member_refusal s (Migrate place first count from to) =
    let is_missing : ℕ → Bool = λ vol. not (map.contains_key s.members vol) in
    first_refusal (refuse_if (option_map_or is_missing from false) NoVolume
    ∷ refuse_if (not (is_open_member s.members to)) NoVolume ∷ [])
member_refusal s (Addvol vol) =
    first_refusal (refuse_if (not (map.contains_key s.rack vol)) NoVolume
    ∷ refuse_if (map.contains_key s.members vol) VolumeTaken
    ∷ refuse_if (nat_lt (rack_pages s vol) min_volume_pages) VolumeSmall ∷ [])
member_refusal s (Rmvol vol) =
    first_refusal (refuse_if (not (map.contains_key s.members vol)) NoVolume
    ∷ refuse_if (map.len s.members == 1) LastVolume ∷ [])
member_refusal s (ChvolA vol) = refuse_if (not (map.contains_key s.members vol)) NoVolume
member_refusal s (Switchlog vol) = refuse_if (not (is_open_member s.members vol)) NoVolume
member_refusal s (Stripe width place) =
    refuse_if (nat_lt (length (open_members s.members)) width) NoVolume
member_refusal s command = None

-- whether what stands at a place has a stripe
abbrev pub is_striped : State → Place → FilesetSlot → Bool
is_striped s place slot =
    option_map_or
    (λ number. set.contains s.striped (place.fileset, number))
    (map.get slot.tree.paths place.path) false

-- the pages of a file
abbrev pub file_pages : Node → Pages
file_pages (File uid gid size logged pages) = pages
file_pages (Directory uid gid) = map.empty

-- the pages of the file at a place
abbrev pub pages_at : FilesetMap → Place → Pages
pages_at all place =
    option_map_or
    (λ slot. option_map_or file_pages (node_at slot.tree place.path) map.empty)
    (map.get all place.fileset) map.empty

-- whether a file has a page
abbrev pub has_pages : FilesetMap → Place → Bool
has_pages all place = nat_lt 0 (map.len (pages_at all place))

-- what refuses a command that changes the volumes of a file without a stripe
abbrev pub stripeless_checks : State → Place → FilesetSlot → List (Option Refusal)
stripeless_checks s place slot =
    read_only slot ∷ target_refusal slot place.path ∷ directory_here slot place.path
    ∷ refuse_if (is_striped s place slot) Striped ∷ []

-- what the place of a command on volumes refuses
abbrev pub place_refusal : State → Command → Option Refusal
place_refusal s (Showfile place) =
    in_fileset s.filesets place.fileset (λ slot.
    target_refusal slot place.path ∷ directory_here slot place.path
    ∷ out_of_sync slot place.path ∷ [])
place_refusal s (Migrate place first count from to) =
    in_fileset s.filesets place.fileset (stripeless_checks s place)
place_refusal s (Defragment place) = in_fileset s.filesets place.fileset (stripeless_checks s place)
place_refusal s (Stripe width place) =
    in_fileset s.filesets place.fileset (λ slot. first_refusal (stripeless_checks s place slot)
    ∷ refuse_if (has_pages s.filesets place) NotEmpty ∷ [])
place_refusal s command = None

-- the first refusal of a command on volumes, by the state alone
abbrev pub volume_refusal : State → Command → Option Refusal
volume_refusal s command = first_refusal (place_refusal s command ∷ member_refusal s command ∷ [])

-- ---- what is shown

-- a member's line: its pages, used or free, and what it is
pub record ShowsMember (s : State) (line : VolumeItem) : Type 0 where
  pub member : IsSomeAnd (map.get s.members line.vol)
      (λ member. (line.pages ≡ member.pages) × (line.closed ≡ not member.is_open))
  pub counts : line.used + line.free ≡ line.pages
  pub log : line.has_log ≡ (line.vol == s.log_volume)

-- the member list, in rising order
pub record ShowsMembers (s : State) (lines : List VolumeItem) : Type 0 where
  pub volumes : map (λ line. line.vol) lines ≡ map.keys s.members
  pub each : All (ShowsMember s) lines

-- a page of a file is one of a run
abbrev pub IsInRun : ℕ → ExtentItem → Type 0
IsInRun q run = (run.page ≤ q) × (q < run.page + run.count)

-- the next run begins where one ends, in the file and on the volume
abbrev pub touches : ExtentItem → ExtentItem → Bool
touches run next =
    run.page + run.count == next.page
    && run.vol == next.vol && run.first + run.count == next.first

-- two runs have no page of a volume in common
abbrev pub AreApart : ExtentItem → ExtentItem → Type 0
AreApart run other =
    run.vol ≡ other.vol
    → (run.first + run.count ≤ other.first) ⊎ (other.first + other.count ≤ run.first)

-- the runs of a file's pages are maximal, in order, and on members
pub record ShowsExtents (members : MemberMap) (pages : Pages) (runs : List ExtentItem)
    : Type 0 where
  pub covered : (q : ℕ) → IsTrue (map.contains_key pages q) ↔ Any (IsInRun q) runs
  pub some : All (λ run. 0 < run.count) runs
  pub in_order : AllAdjacentBelow (λ run next. run.page + run.count ≤ next.page) runs (length runs)
  pub maximal : AllAdjacentBelow (λ run next. touches run next ≡ false) runs (length runs)
  pub on_members : All
      (λ run. IsSomeAnd (map.get members run.vol) (λ member. run.first + run.count ≤ member.pages))
      runs
  pub apart : AllPairs AreApart runs

-- ---- what changes

-- a state in which a member takes new pages or does not
abbrev pub with_open : Bool → ℕ → State → State
with_open is_open vol s =
    option_map_or
    (λ member. record s {
      members = map.insert s.members vol (record member { is_open = is_open });
    })
    (map.get s.members vol) s

-- a state with a volume of the rack as an open member, up to the greatest size that the version
-- allows
abbrev pub with_member : ℕ → State → State
with_member vol s =
    let pages = min (rack_pages s vol) (most_pages s.version) in
    record s { members = map.insert s.members vol (record { pages = pages; is_open = true }) }

-- a member goes, and the log, if it was there, is now on an open one that stays
pub record Removes (vol : ℕ) (s new : State) : Type 0 where
  pub members : new.members ≡ map.remove s.members vol
  pub log_stays : s.log_volume ≢ vol → new.log_volume ≡ s.log_volume
  pub log_moves : s.log_volume ≡ vol → IsTrue (is_open_member new.members new.log_volume)
  pub rest : new ≡ record s { members = new.members; log_volume = new.log_volume }

-- a state in which the file at a place is striped
abbrev pub with_stripe : Place → State → State
with_stripe place s =
    option_map_or
    (λ slot. option_map_or
    (λ number. record s { striped = set.insert s.striped (place.fileset, number) })
    (map.get slot.tree.paths place.path) s)
    (map.get s.filesets place.fileset) s
