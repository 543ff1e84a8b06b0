-- Homes whose pages are lent, and what calls make of frames.
use Rattle.std.specs.Prelude.{◌≡◌, ◌≢◌, ◌==◌, ◌+◌, ◌++◌, ℕ, zero, suc, Bool, true, false, List, [], ◌∷◌, Some, None, IsSome, if◌then◌else◌}
use Rattle.std.specs.List.{list_any}
use Rattle.std.specs.Option.{option_map}
use Rattle.page_cache.specs.domain_base.declared.place.Home.{Home}
use Rattle.page_cache.specs.page_store.Pages.{Pages, same_home}
use Rattle.page_cache.specs.page_store.sorted_sets.Homes.{number_of}
use Rattle.page_cache.specs.declared.cache.PageCache.{PageCache}
use Rattle.page_cache.specs.declared.frame.Frame.{Frame}
use Rattle.page_cache.specs.Cache.{dirty_of, frames_of, kept_of, order_of}
use Rattle.page_cache.specs.Frames.{Frames, groups, placed, with_frame, without_number}

-- whether a home is among these
abbrev pub is_among : List Home → Home → Bool
is_among homes home = list_any (same_home home) homes

-- these with one more home, unless it is among them
abbrev pub with_home : List Home → Home → List Home
with_home homes home = if is_among homes home then homes else homes ++ home ∷ []

-- each of these has a frame
abbrev pub AreKept : Frames → List Home → Type 0
AreKept frames homes = (home : Home) → is_among homes home ≡ true → IsSome (frames home)

-- the pages of these homes, and no others
abbrev pub lent_pages : PageCache → List Home → Pages
lent_pages cache homes home =
    if is_among homes home then option_map (λ (f : Frame). f.page) (frames_of cache home) else None

-- a number comes among the first k of an order, or not at all
unfoldable pub ComesWithin : ℕ → ℕ → List ℕ → Type 0
ComesWithin k number [] = Unit {0}
ComesWithin zero number (n ∷ order) = (number ≢ n) × ComesWithin zero number order
ComesWithin (suc k) number (n ∷ order) = ComesWithin k number order

-- all homes have the frames that they had
pub record KeepsFrames (old new : PageCache) : Type 0 where
  pub frames : frames_of new ≡ frames_of old
  pub kept : kept_of new ≡ kept_of old
  pub dirty : dirty_of new ≡ dirty_of old

-- how the order of use is after a use of the frame of each of these homes, one after the other
unfoldable pub used_each : Frames → List Home → List ℕ → List ℕ
used_each frames [] order = order
used_each frames (home ∷ homes) order =
    used_each frames homes (placed (number_of home) (frames home) order)

-- an order of use without the numbers of these homes
unfoldable pub without_homes : List Home → List ℕ → List ℕ
without_homes homes [] = []
without_homes homes (n ∷ order) =
    if list_any (λ (home : Home). number_of home == n) homes then without_homes homes order
    else n ∷ without_homes homes order

-- the clean frame of a page
abbrev pub clean_of : List ℕ → Frame
clean_of page = record { page = page; waits = None }

-- the frames of these homes were used, and then this one has a clean frame with the page, which had
-- none; all others have theirs
pub record Adds (lent : List Home) (home : Home) (page : List ℕ) (old new : PageCache)
    : Type 0 where
  pub frames : frames_of new ≡ with_frame home (Some (clean_of page)) (frames_of old)
  pub order : order_of new ≡ placed (number_of home) (Some (clean_of page))
      (used_each (frames_of old) lent (order_of old))
  pub kept : kept_of new ≡ kept_of old + 1
  pub dirty : dirty_of new ≡ dirty_of old

-- the same, but for a frame that has gone: of those that are clean and not lent, the one that was
-- used least recently
pub record Displaces (lent : List Home) (home : Home) (page : List ℕ) (old new : PageCache)
    : Type 0 where
  pub goes : ℕ
  pub earlier : List ℕ
  pub last : used_each (frames_of old) lent (order_of old) ≡ earlier ++ goes ∷ []
  pub least : without_homes lent (order_of old) ≡ without_homes lent earlier ++ goes ∷ []
  pub was_clean : (other : Home) → number_of other ≡ goes
      → groups (frames_of old) other ≡ None
  pub was_free : (other : Home) → number_of other ≡ goes → is_among lent other ≡ false
  pub frames : frames_of new ≡ with_frame home (Some (clean_of page))
      (without_number goes (frames_of old))
  pub order : order_of new ≡ placed (number_of home) (Some (clean_of page)) earlier
  pub kept : kept_of new ≡ kept_of old
  pub dirty : dirty_of new ≡ dirty_of old
