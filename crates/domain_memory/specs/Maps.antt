-- The free space of a domain, as far as it was read.
use Rattle.std.specs.Prelude.{◌≡◌, ◌<◌, ◌≤◌, ℕ, false, length, None}
use Rattle.std.specs.FinSet.{contains}
use Rattle.standing_laws.specs.page_store.Pages.{Pages}
use Rattle.standing_laws.specs.free_space.VolumePages.{VolumePages}
use Rattle.standing_laws.specs.free_space.Spaces.{Spaces, volume_of}
use Rattle.standing_laws.specs.domain_layout.Reached.{Frame}
use Rattle.standing_laws.specs.domain_standing.Marks.{IsMarkedAt}
use Rattle.standing_laws.specs.free_cells.Marks.{is_marked}

-- the map of `count` pages of a volume: a page is used if and only if its bit is 1
pub record IsMapOf (pages : Pages) (vol count : ℕ) (map : VolumePages) : Type 0 where
  pub size : map.pages ≡ count
  pub used : (page : ℕ) → page < count → contains map.used page ≡ is_marked pages vol page

-- such a map, as far as the bits were read: from page `next` on, no page is used
pub record IsReadTo (pages : Pages) (vol count next : ℕ) (map : VolumePages) : Type 0 where
  pub size : map.pages ≡ count
  pub used : (page : ℕ) → page < next → contains map.used page ≡ is_marked pages vol page
  pub later : (page : ℕ) → next ≤ page → contains map.used page ≡ false

-- the free space of the volumes below one, and none of the others
pub record IsMarkedBelow (pages : Pages) (frame : Frame) (number : ℕ) (space : Spaces) : Type 0
  where
    pub places : length space.volumes ≡ 8
    pub read : (vol : ℕ) → 1 ≤ vol → vol < number
        → IsMarkedAt pages frame vol (volume_of space vol)
    pub later : (vol : ℕ) → number ≤ vol → volume_of space vol ≡ None
