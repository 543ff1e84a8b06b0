-- The members that the lines of a member list tell of.
use Rattle.std.specs.Prelude.{◌≡◌, ◌<◌, ◌+◌, ◌==◌, ℕ, List, length, map, not}
use Rattle.std.specs.List.{AllAdjacentBelow}
use Rattle.std.specs.FinMap as map_of
use Rattle.legal_histories.specs.fileset_values.declared.reply.VolumeItem.{VolumeItem}
use Rattle.legal_histories.specs.State.{Member, MemberMap, State, rack_of}

-- the member that a line tells of
abbrev pub member_of : VolumeItem → Member
member_of line = record { pages = line.pages; is_open = not line.closed }

abbrev pub entries_of : List VolumeItem → List (ℕ × Member)
entries_of lines = map (λ line. (line.vol, member_of line)) lines

-- the members that the lines of a member list tell of
abbrev pub members_of : List VolumeItem → MemberMap
members_of lines = map_of.from_sorted (entries_of lines)

-- the numbers of the volumes rise from line to line
abbrev pub Rises : List VolumeItem → Type 0
Rises lines = AllAdjacentBelow (λ line next. line.vol < next.vol) lines (length lines)

-- a state whose rack has volumes of these sizes, and whose members are those of these lines
pub record HasVolumes (s : State) (sizes : List ℕ) (lines : List VolumeItem) : Type 0 where
  pub rack : s.rack ≡ rack_of sizes
  pub members : s.members ≡ members_of lines

-- a line whose used and free pages make up its pages, and that is marked if the log is on its
-- volume
abbrev pub AddsUp : ℕ → VolumeItem → Type 0
AddsUp log_volume line =
    (line.used + line.free ≡ line.pages) × (line.has_log ≡ (line.vol == log_volume))
