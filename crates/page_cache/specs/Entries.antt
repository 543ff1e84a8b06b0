-- Frames as the list of their entries, each under the number of its home, the latest use first.
use Rattle.std.specs.Prelude.{◌≡◌, ◌==◌, ◌+◌, ◌++◌, ◌^◌, ℕ, Bool, true, List, [], ◌∷◌, Option, Some, None, length, nat_eq, nat_lt, if◌then◌else◌}
use Rattle.std.specs.Map.{lookup}
use Rattle.std.specs.Option.{option_and_then}
use Rattle.lru.specs.LruCache.{last_entry}
use Rattle.page_store.specs.sorted_sets.Homes.{number_of}
use Rattle.page_cache.specs.declared.frame.Frame.{Frame}
use Rattle.page_cache.specs.Frames.{Frames, group_of, is_clean, placed}

abbrev pub Entries : Type 0
Entries = List (ℕ × Frame)

-- the frame of a number
abbrev pub frame_at : Entries → ℕ → Option Frame
frame_at entries number = lookup (nat_eq number) entries

-- the frames by their homes
abbrev pub frames_in : Entries → Frames
frames_in entries home =
    if nat_lt home.page (2 ^ 32) then frame_at entries (number_of home) else None

-- the group that the dirty frame of a number waits for
abbrev pub groups_in : Entries → ℕ → Option ℕ
groups_in entries number = group_of (frame_at entries number)

-- the numbers of the clean ones
abbrev pub clean_in : Entries → List ℕ
clean_in [] = []
clean_in (e ∷ entries) =
    if is_clean (Some e.1) then e.0 ∷ clean_in entries else clean_in entries

abbrev pub one_if : Bool → ℕ
one_if holds = if holds then 1 else 0

abbrev pub one_for : {X : Type 0} → Option X → ℕ
one_for None = 0
one_for (Some x) = 1

-- the number has this frame now, or none; all others have theirs
pub record Becomes (number : ℕ) (frame : Option Frame) (old new : Entries) : Type 0 where
  pub frames : (q : ℕ) → frame_at new q ≡ (if number == q then frame else frame_at old q)
  pub order : clean_in new ≡ placed number frame (clean_in old)
  pub kept : length new + one_for (frame_at old number) ≡ length old + one_for frame
  pub clean : length (clean_in new) + one_if (is_clean (frame_at old number))
      ≡ length (clean_in old) + one_if (is_clean frame)

-- the same frames, and the clean ones in the same order of use
pub record KeepsOrder (old new : Entries) : Type 0 where
  pub frames : (q : ℕ) → frame_at new q ≡ frame_at old q
  pub order : clean_in new ≡ clean_in old
  pub kept : length new ≡ length old

-- the number of the last entry, if that is dirty
abbrev pub last_dirty : Entries → Option ℕ
last_dirty entries =
    option_and_then (λ e. if is_clean (Some e.1) then None else Some e.0) (last_entry entries)

-- how many dirty ones stand after the last clean one
abbrev pub behind : Entries → ℕ
behind [] = 0
behind (e ∷ entries) =
    if nat_lt 0 (length (clean_in entries)) then behind entries
    else if is_clean (Some e.1) then length entries else length entries + 1

-- the last one in the order of use has gone, and the number, which had none, has this frame
pub record Displaces (number : ℕ) (frame : Frame) (old new : Entries) : Type 0 where
  pub goes : ℕ
  pub earlier : List ℕ
  pub last : clean_in old ≡ earlier ++ goes ∷ []
  pub frames : (q : ℕ) → frame_at new q
      ≡ (if number == q then Some frame else if goes == q then None else frame_at old q)
  pub order : clean_in new ≡ placed number (Some frame) earlier
  pub kept : length new ≡ length old
  pub clean : length (clean_in new) + 1
      ≡ length (clean_in old) + one_if (is_clean (Some frame))
  pub was_clean : is_clean (frame_at old goes) ≡ true
