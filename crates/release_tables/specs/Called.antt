-- Calls on one tag of a world's fileset, and what is let go of between them.
use Rattle.std.specs.Prelude.{◌≡◌, ◌≤◌, ◌⊎◌, ◌↔◌, ℕ, false, List, Option, Some, None, IfSome, Contains}
use Rattle.std.specs.Option.{option_and_then}
use Rattle.release_steps.specs.domain_base.declared.place.CellAt.{CellAt}
use Rattle.release_steps.specs.domain_base.declared.place.Home.{Home}
use Rattle.release_steps.specs.domain_base.declared.place.Tag.{Tag}
use Rattle.release_steps.specs.domain_base.declared.version.Version.{Version}
use Rattle.release_steps.specs.page_store.Bitfiles.{same_tag}
use Rattle.release_steps.specs.page_store.Pages.{Pages}
use Rattle.release_steps.specs.page_store.Homes.{pages_of}
use Rattle.release_steps.specs.tag_dirs.declared.dir.TagPlace.{TagPlace}
use Rattle.release_steps.specs.free_cells.Cells.{Cells, table_of}
use Rattle.release_steps.specs.free_space.Spaces.{Spaces}
use Rattle.release_steps.specs.fileset_files.Files.{Chains}
use Rattle.release_steps.specs.release_list.Listing.{Adds, Listing}
use Rattle.release_steps.specs.release_list.Standing.{Files, source_at}
use Rattle.release_steps.specs.release_list.Steps.{IsWell, Steps, now_of}
use Rattle.release_steps.specs.Calls.{Calls, FilesetNow, StandsWell}
use Rattle.release_steps.specs.Kept.{IsBeside}
use Rattle.release_steps.specs.Lists.{with_list}
use Rattle.release_steps.specs.Tags.{AreAmong, chains_in, start_of}
use Rattle.release_steps.specs.Taken.{IsHeldAt, IsTaken}
use Rattle.release_steps.specs.Waits.{IsGivenUp}
use Rattle.file_world.specs.declared.world.World.{World}

-- what a world and a list hold
pub record Parts : Type 0 where
  pub places : List TagPlace
  pub list : Listing
  pub space : Spaces
  pub cells : Cells
  pub pages : Pages

abbrev pub parts_of : World → Listing → Parts
parts_of world list = record {
  places = world.files.tags;
  list = list;
  space = world.space;
  cells = world.cells;
  pages = pages_of world.pages.entries.items;
}

-- with these files of the domain, and these of the fileset's tags
abbrev pub fileset_in : Parts → Files → Chains → FilesetNow
fileset_in now files chains = record {
  places = now.places;
  chains = chains;
  domain = now_of now.list files now.space now.cells now.pages;
}

-- calls on the tag led there
pub record HasCalled (fileset : ℕ) (version : Version) (tag : Tag) (first : FilesetNow) (now : Parts) : Type 0 where
  pub files : Files
  pub chains : Chains
  pub calls : Calls fileset version tag first (fileset_in now files chains)

-- the same, and the tag's file begins at the cell that is told, if one is
abbrev pub HasCut : ℕ → Version → Tag → FilesetNow → Parts → Option CellAt → Type 0
HasCut fileset version tag first now left = (called : HasCalled fileset version tag first now)
    × IfSome left (λ at. option_and_then start_of (called.chains tag) ≡ Some at)

-- no file of the domain reads through another
abbrev pub HasNoClone : Files → Type 0
HasNoClone files = (at : CellAt) → source_at files at ≡ None

-- from where all belonged together and no file read through another, calls on the tag led there,
-- and its file begins at a cell
pub record IsCut (fileset : ℕ) (version : Version) (tag : Tag) (at : CellAt) (first : FilesetNow) (now : Parts) : Type 0
  where
    pub stood : StandsWell fileset first
    pub alone : HasNoClone first.domain.files
    pub cut : HasCut fileset version tag first now (Some at)

-- calls on the tag, then its file is put on the list, then steps, and then calls on the tag led
-- there
pub record HasLetGo (fileset : ℕ) (version : Version) (tag : Tag) (first : FilesetNow) (now : Parts) : Type 0 where
  pub cut : FilesetNow
  pub calls : Calls fileset version tag first cut
  pub at : CellAt
  pub begins : option_and_then start_of (cut.chains tag) ≡ Some at
  pub listed : Listing
  pub adds : Adds at None cut.domain.list.entries listed.entries
  pub well : IsWell (with_list listed cut.domain)
  pub among : AreAmong (with_list listed cut.domain) cut.places cut.chains
  pub gone : FilesetNow
  pub count : ℕ
  pub steps : Steps 5 version (with_list listed cut.domain) count gone.domain
  pub places : gone.places ≡ cut.places
  pub chains : gone.chains ≡ chains_in gone.domain.files cut.chains
  pub stands : StandsWell fileset gone
  pub again : HasCalled fileset version tag gone now

-- all belongs together there; each other tag of which no entry was had its file as it was; and
-- exactly these pages are held: those that were or were taken by the first calls, and were not
-- given up by the steps, those of cells, and those that were taken by the last calls
pub record IsWrittenAgain (fileset : ℕ) (version : Version) (tag : Tag) (first : FilesetNow) (now : Parts) : Type 0 where
  pub went : HasLetGo fileset version tag first now
  pub last : FilesetNow
  pub is : last ≡ fileset_in now went.again.files went.again.chains
  pub stands : StandsWell fileset last
  pub others : (other : Tag) → same_tag other tag ≡ false
      → ((at : CellAt) → option_and_then start_of (first.chains other) ≡ Some at
      → IsBeside first.domain.list at) → last.chains other ≡ first.chains other
  pub held : (home : Home) → 1 ≤ home.vol → IsHeldAt last home
      ↔ ((((IsHeldAt first home ⊎ IsTaken fileset version tag first went.cut home)
      × ¬ IsGivenUp (with_list went.listed went.cut.domain) went.gone.domain home)
      ⊎ Contains (table_of went.gone.domain.cells home.vol) home.page)
      ⊎ IsTaken fileset version tag went.gone last home)
