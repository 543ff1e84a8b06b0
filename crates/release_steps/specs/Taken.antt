-- Pages that calls on a tag take of the free space.
use Rattle.std.specs.Prelude.{◌≡◌, ◌⊎◌, ℕ, true, List, Contains}
use Rattle.release_list.specs.domain_base.declared.place.CellAt.{CellAt}
use Rattle.release_list.specs.domain_base.declared.place.Home.{Home}
use Rattle.release_list.specs.domain_base.declared.place.Tag.{Tag}
use Rattle.release_list.specs.domain_base.declared.version.Version.{Version}
use Rattle.release_list.specs.metadata_cells.Chain.{PlacedCell}
use Rattle.release_list.specs.tag_dirs.Directory.{has_home}
use Rattle.release_list.specs.extent_maps.declared.run.PagePlace.TheVariants.{At}
use Rattle.release_list.specs.free_cells.Cells.{table_of}
use Rattle.release_list.specs.free_space.Spaces.{IsHeld}
use Rattle.release_list.specs.file_chains.Files.{places_of}
use Rattle.release_list.specs.Standing.{Files, place_in}
use Rattle.release_steps.specs.Calls.{Calls, FilesetNow, Gives, PutsPage}

-- the page at a home is used and does not wait
abbrev pub IsHeldAt : FilesetNow → Home → Type 0
IsHeldAt now home = IsHeld now.domain.space home.vol home.page

-- in one of the calls the free page at that home was taken for a page of the tag's file
pub record IsGiven (fileset : ℕ) (version : Version) (tag : Tag) (first last : FilesetNow)
    (home : Home) : Type 0 where
  pub before : FilesetNow
  pub after : FilesetNow
  pub earlier : Calls fileset version tag first before
  pub gives : Gives fileset version tag before after
  pub is : gives.home ≡ home
  pub later : Calls fileset version tag after last

-- the page was given like that, or it is a page of cells, or of the tag directory
abbrev pub IsTaken : ℕ → Version → Tag → FilesetNow → FilesetNow → Home → Type 0
IsTaken fileset version tag first last home = IsGiven fileset version tag first last home
    ⊎ (Contains (table_of last.domain.cells home.vol) home.page
    ⊎ (has_home last.places home ≡ true))

-- a file has a page at the home
pub record HasHome (files : Files) (home : Home) : Type 0 where
  pub at : CellAt
  pub page : ℕ
  pub there : place_in files at page ≡ At home

-- in one of the calls the page of the tag's file that stood at that home was put at another one
pub record IsPutElsewhere (fileset : ℕ) (version : Version) (tag : Tag) (first last : FilesetNow)
    (home : Home) : Type 0 where
  pub before : FilesetNow
  pub after : FilesetNow
  pub earlier : Calls fileset version tag first before
  pub to : Home
  pub chain : List PlacedCell
  pub puts : PutsPage fileset version tag to chain before after
  pub was : places_of chain puts.page ≡ At home
  pub later : Calls fileset version tag after last
