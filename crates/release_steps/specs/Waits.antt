-- Pages that wait.
use Rattle.std.specs.Prelude.{◌≡◌, ◌⊎◌, ◌≤◌, ℕ, List, Contains, IsSomeAnd, Some}
use Rattle.release_list.specs.domain_base.declared.place.CellAt.{CellAt}
use Rattle.release_list.specs.domain_base.declared.place.Home.{Home}
use Rattle.release_list.specs.metadata_cells.Chain.{PlacedCell}
use Rattle.release_list.specs.extent_maps.declared.run.PagePlace.TheVariants.{At}
use Rattle.release_list.specs.free_space.declared.waiting.PageUse.{PageUse}
use Rattle.release_list.specs.free_space.declared.waiting.PageUse.TheVariants.{Metadata}
use Rattle.release_list.specs.free_space.declared.waiting.Waiting.{Waiting}
use Rattle.release_list.specs.free_space.Spaces.{Spaces, volume_of}
use Rattle.release_list.specs.file_chains.Files.{places_of}
use Rattle.release_list.specs.fileset_files.Together.{IsHeldApart}
use Rattle.release_list.specs.file_release.Releases.{use_of}
use Rattle.release_list.specs.Standing.{Files, place_in}
use Rattle.release_list.specs.Steps.{Now}

-- a page of the volume waits, with that use and for that group
abbrev pub Waits : Spaces → ℕ → Waiting → Type 0
Waits space vol page = IsSomeAnd (volume_of space vol) (λ v. Contains v.waiting page)

-- the page at a home, waiting with that use for that group
abbrev pub waiting_at : Home → PageUse → ℕ → Waiting
waiting_at home kind group = record { page = home.page; kind = kind; group = group }

-- no file has a page at the home
abbrev pub IsNowhere : Files → Home → Type 0
IsNowhere files home = (at : CellAt) (page : ℕ) → ¬ place_in files at page ≡ At home

-- a page of a volume is held, and none of cells, of a file or of the list
pub record StandsApart (now : Now) (home : Home) : Type 0 where
  pub low : 1 ≤ home.vol
  pub nowhere : IsNowhere now.files home
  pub not_listed : ¬ Contains now.list.tag_pages home
  pub apart : IsHeldApart now.space now.cells home

-- a file had a page at the home, which was of that use, and no file has it any more
pub record IsLetGo (first last : Now) (home : Home) (kind : PageUse) : Type 0 where
  pub at : CellAt
  pub page : ℕ
  pub chain : List PlacedCell
  pub was : first.files at ≡ Some chain
  pub there : places_of chain page ≡ At home
  pub of_use : use_of chain ≡ kind
  pub nowhere : IsNowhere last.files home

-- a file had a page at the home, and none has one there any more
pub record IsLost (first last : Now) (home : Home) : Type 0 where
  pub at : CellAt
  pub page : ℕ
  pub was : place_in first.files at page ≡ At home
  pub nowhere : IsNowhere last.files home

-- the home is lost like that, or it is that of a page of a tag directory that is on the list no
-- more
abbrev pub IsGivenUp : Now → Now → Home → Type 0
IsGivenUp first last home = IsLost first last home
    ⊎ (Contains first.list.tag_pages home × ¬ Contains last.list.tag_pages home)

-- a file had a page at the home, which was of that use, and no file has it any more; or it was that
-- of a page of a tag directory, which is metadata, on the list and is not any more
abbrev pub IsLetOff : Now → Now → Home → PageUse → Type 0
IsLetOff first last home kind = IsLetGo first last home kind
    ⊎ ((kind ≡ Metadata) × Contains first.list.tag_pages home
    × ¬ Contains last.list.tag_pages home)

-- the page that waits on the volume is one that was let off, with its use and for the group
pub record WaitsSince (group : ℕ) (first last : Now) (vol : ℕ) (page : Waiting) : Type 0 where
  pub home : Home
  pub kind : PageUse
  pub on : vol ≡ home.vol
  pub is : page ≡ waiting_at home kind group
  pub off : IsLetOff first last home kind
