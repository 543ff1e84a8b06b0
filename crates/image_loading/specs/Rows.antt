-- Pages of a volume that stand in a row, and which of them come along with one that is read.
use Rattle.std.specs.Prelude.{◌≡◌, ◌==◌, ◌+◌, ◌/◌, ◌%◌, ◌<◌, ◌≤◌, ℕ, Bool, true, false, None, IsSome, slice_index}
use Rattle.std.specs.Int.{bit_at}
use Rattle.std.specs.Option.{option_map_or}
use Rattle.slot_files.specs.domain_base.declared.place.Home.{Home}
use Rattle.slot_files.specs.page_store.Pages.{Pages}
use Rattle.slot_files.specs.domain_layout.Reached.{Frame, MayBe}

-- so many pages of a volume from one on are there
abbrev pub AreThereFrom : ℕ → ℕ → ℕ → Pages → Type 0
AreThereFrom vol first count pages =
    (number : ℕ) → number < count → IsSome (pages (record { vol = vol; page = first + number }))

-- the bit of a page is 1 in the bitmap of its volume, which begins with page 2
abbrev pub is_marked : Pages → Home → Bool
is_marked pages home =
    option_map_or
    (λ bytes. bit_at (slice_index bytes (home.page % 65536 / 8)) (home.page % 65536 % 8) == 1)
    (pages (record { vol = home.vol; page = 2 + home.page / 65536 })) false

-- a page that tables and files may have is in use, and is not there yet
pub record ComesAlong (pages : Pages) (frame : Frame) (home : Home) : Type 0 where
  pub may : MayBe frame home
  pub marked : is_marked pages home ≡ true
  pub none : pages home ≡ None

-- so do all behind the first one of so many pages in a row, and the next one does not, where there
-- are fewer than sixty-four
pub record IsRow (pages : Pages) (frame : Frame) (home : Home) (count : ℕ) : Type 0 where
  pub some : 1 ≤ count
  pub most : count ≤ 64
  pub behind : (number : ℕ) → 1 ≤ number → number < count
      → ComesAlong pages frame (record { vol = home.vol; page = home.page + number })
  pub ends : count < 64
      → ¬ ComesAlong pages frame (record { vol = home.vol; page = home.page + count })
