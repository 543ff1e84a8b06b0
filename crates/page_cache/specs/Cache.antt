-- What a cache keeps, and what a call makes of it.
use Rattle.std.specs.Prelude.{◌≡◌, ◌+◌, ◌++◌, ℕ, List, [], ◌∷◌, Option, Some, None, length, vec_len}
use Rattle.page_store.specs.domain_base.declared.place.Home.{Home}
use Rattle.page_store.specs.sorted_sets.Homes.{number_of}
use Rattle.page_cache.specs.declared.cache.PageCache.{PageCache}
use Rattle.page_cache.specs.declared.frame.Frame.{Frame}
use Rattle.page_cache.specs.Entries.{clean_in, frames_in, one_for}
use Rattle.page_cache.specs.Frames.{Frames, group_of, groups, placed, with_frame, without_number}

-- the frames that it keeps, by their homes
abbrev pub frames_of : PageCache → Frames
frames_of cache = frames_in cache.frames.entries

-- the numbers of the homes of its clean frames, the latest use first
abbrev pub order_of : PageCache → List ℕ
order_of cache = clean_in cache.frames.entries

-- how many it keeps
abbrev pub kept_of : PageCache → ℕ
kept_of cache = length cache.frames.entries

-- how many of them are dirty
abbrev pub dirty_of : PageCache → ℕ
dirty_of cache = vec_len cache.dirty.places

-- the home has this frame now, which is used by that, or none, and all others have theirs
pub record Changes (home : Home) (frame : Option Frame) (old new : PageCache) : Type 0 where
  pub frames : frames_of new ≡ with_frame home frame (frames_of old)
  pub order : order_of new ≡ placed (number_of home) frame (order_of old)
  pub kept : kept_of new + one_for (frames_of old home) ≡ kept_of old + one_for frame
  pub dirty : dirty_of new + one_for (groups (frames_of old) home)
      ≡ dirty_of old + one_for (group_of frame)

-- nothing has changed
pub record KeepsAll (old new : PageCache) : Type 0 where
  pub frames : frames_of new ≡ frames_of old
  pub order : order_of new ≡ order_of old
  pub kept : kept_of new ≡ kept_of old
  pub dirty : dirty_of new ≡ dirty_of old

-- the clean frame that comes last in the order of use has gone, the home has this one, and all others
-- have theirs
pub record Replaces (home : Home) (frame : Frame) (old new : PageCache) : Type 0 where
  pub goes : ℕ
  pub earlier : List ℕ
  pub last : order_of old ≡ earlier ++ goes ∷ []
  pub was_clean : (other : Home) → number_of other ≡ goes → groups (frames_of old) other ≡ None
  pub frames : frames_of new ≡ with_frame home (Some frame) (without_number goes (frames_of old))
  pub order : order_of new ≡ placed (number_of home) (Some frame) earlier
  pub kept : kept_of new ≡ kept_of old
  pub dirty : dirty_of new ≡ dirty_of old
