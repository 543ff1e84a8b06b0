-- Bits of bitmaps that are set or cleared.
use Rattle.std.specs.Prelude.{◌≡◌, ◌↔◌, ℕ, ◌==◌, ◌&&◌, ◌<◌, ◌≤◌, Bool, true, false, Option, IsSomeAnd, if◌then◌else◌}
use Rattle.std.specs.FinSet.{contains}
use Rattle.std.specs.Option.{is_some}
use Rattle.metadata_cells.specs.domain_base.declared.place.Home.{Home}
use Rattle.metadata_cells.specs.page_store.Pages.{Pages, same_home}
use Rattle.free_space.specs.Spaces.{Spaces, volume_of}
use Rattle.free_space.specs.VolumeSpace.{VolumeSpace, is_waiting}
use Rattle.free_cells.specs.Marks.{bitmap_home, is_marked}

-- the bits of these pages of a volume are so; all other bits and all other pages are as they were
pub record MarksAll (vol : ℕ) (among : ℕ → Bool) (is_used : Bool) (old new : Pages) : Type 0 where
  pub bits : (v page : ℕ) → is_marked new v page
      ≡ (if v == vol && among page then is_used else is_marked old v page)
  pub there : (home : Home) → is_some (new home) ≡ is_some (old home)
  pub elsewhere : (home : Home)
      → ((page : ℕ) → among page ≡ true → same_home home (bitmap_home vol page) ≡ false)
      → new home ≡ old home

-- a page of a volume, if that is there
abbrev pub IsPageIn : Option VolumeSpace → ℕ → Type 0
IsPageIn o page = IsSomeAnd o (λ v. page < v.pages)

-- a page of a volume that is used and does not wait
abbrev pub IsHeldIn : Option VolumeSpace → ℕ → Type 0
IsHeldIn o page = IsSomeAnd o (λ v. (contains v.used page ≡ true) × (is_waiting v page ≡ false))

-- the bit of each of the volume's pages is 1 if and only if the page is used and does not wait
abbrev pub SaysHeld : Pages → ℕ → Option VolumeSpace → Type 0
SaysHeld pages vol o =
    (page : ℕ) → IsPageIn o page → (is_marked pages vol page ≡ true) ↔ IsHeldIn o page

-- the bits of the pages of all volumes say so
abbrev pub SayHeld : Pages → Spaces → Type 0
SayHeld pages space =
    (vol : ℕ) → 1 ≤ vol → vol ≤ 8 → SaysHeld pages vol (volume_of space vol)

-- a page of a bitmap that has bits of the volume's pages stands at the home
pub record IsOfBitmap (vol : ℕ) (o : Option VolumeSpace) (home : Home) : Type 0 where
  pub page : ℕ
  pub within : IsPageIn o page
  pub at : same_home home (bitmap_home vol page) ≡ true

-- pages are the same but for bits of pages of the volume
pub record ChangesBits (vol : ℕ) (o : Option VolumeSpace) (old new : Pages) : Type 0 where
  pub there : (home : Home) → is_some (new home) ≡ is_some (old home)
  pub elsewhere : (home : Home) → ¬ IsOfBitmap vol o home → new home ≡ old home
  pub others : (v page : ℕ) → ¬ v ≡ vol → is_marked new v page ≡ is_marked old v page
  pub behind : (page : ℕ) → ¬ IsPageIn o page → is_marked new vol page ≡ is_marked old vol page

-- pages are the same but for bits of pages of any volumes
pub record ChangeBits (space : Spaces) (old new : Pages) : Type 0 where
  pub there : (home : Home) → is_some (new home) ≡ is_some (old home)
  pub elsewhere : (home : Home)
      → ((vol : ℕ) → 1 ≤ vol → ¬ IsOfBitmap vol (volume_of space vol) home)
      → new home ≡ old home
  pub behind : (vol page : ℕ) → ¬ IsPageIn (volume_of space vol) page
      → is_marked new vol page ≡ is_marked old vol page
