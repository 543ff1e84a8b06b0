-- Frames by their homes, and which of them comes first.
use Rattle.std.specs.Prelude.{◌≡◌, ◌==◌, ◌<◌, ◌≤◌, ◌⊎◌, ℕ, Bool, List, [], ◌∷◌, Option, Some, None, false, is_none, max, if◌then◌else◌}
use Rattle.std.specs.Option.{option_and_then, option_map_or}
use Rattle.page_store.specs.domain_base.declared.place.Home.{Home}
use Rattle.page_store.specs.Pages.{same_home}
use Rattle.page_store.specs.sorted_sets.Homes.{number_of}
use Rattle.page_cache.specs.declared.frame.Frame.{Frame}

-- the frame of each home, if one is kept
abbrev pub Frames : Type 0
Frames = Home → Option Frame

abbrev pub no_frames : Frames
no_frames home = None

-- the frames with this frame, or none, at the home
abbrev pub with_frame : Home → Option Frame → Frames → Frames
with_frame home frame frames = λ h. if same_home h home then frame else frames h

-- the frames with none at the home of this number
abbrev pub without_number : ℕ → Frames → Frames
without_number number frames = λ h. if number == number_of h then None else frames h

-- the group that a dirty frame waits for
abbrev pub group_of : Option Frame → Option ℕ
group_of frame = option_and_then (λ (f : Frame). f.waits) frame

-- the group of the dirty frame at each home, if it has one
abbrev pub groups : Frames → Home → Option ℕ
groups frames home = group_of (frames home)

-- the later of a group and the one that a frame waits for, if it waits for one
abbrev pub later_of : Option ℕ → ℕ → ℕ
later_of None group = group
later_of (Some waits) group = max waits group

abbrev pub is_clean : Option Frame → Bool
is_clean frame = option_map_or (λ (f : Frame). is_none f.waits) frame false

-- the same frame, clean
abbrev pub cleaned : Frame → Frame
cleaned frame = record { page = frame.page; waits = None }

-- ---- the order of use: the numbers of the homes of clean frames, the latest use first

-- the order without a number
abbrev pub without : ℕ → List ℕ → List ℕ
without number [] = []
without number (n ∷ order) =
    if number == n then without number order else n ∷ without number order

-- the order once the frame of a number has been used, or gone, and is this one now or none
abbrev pub placed : ℕ → Option Frame → List ℕ → List ℕ
placed number frame order =
    if is_clean frame then number ∷ without number order else without number order

-- this home has the least number, and comes before all others that have it
pub record IsFirst (numbers : Home → Option ℕ) (home : Home) (least : ℕ) : Type 0 where
  pub has : numbers home ≡ Some least
  pub first : (other : Home) (number : ℕ) → numbers other ≡ Some number
      → (least < number) ⊎ ((least ≡ number) × (number_of home ≤ number_of other))
