-- Calls on one tag of a fileset whose files are among those of a domain.
use Rattle.std.specs.Prelude.{◌≡◌, ◌⊎◌, ◌∷◌, ℕ, List, [], Option, Some, Contains}
use Rattle.release_list.specs.domain_base.declared.place.CellAt.{CellAt}
use Rattle.release_list.specs.domain_base.declared.place.Home.{Home}
use Rattle.release_list.specs.domain_base.declared.place.Tag.{Tag}
use Rattle.release_list.specs.domain_base.declared.version.Version.{Version}
use Rattle.release_list.specs.metadata_cells.Cell.{Cell}
use Rattle.release_list.specs.metadata_cells.Chain.{PlacedCell}
use Rattle.release_list.specs.tag_dirs.declared.dir.TagPlace.{TagPlace}
use Rattle.release_list.specs.extent_maps.declared.run.PagePlace.TheVariants.{At}
use Rattle.release_list.specs.free_space.Spaces.{missed}
use Rattle.release_list.specs.file_chains.FileChanges.{LeavesOtherCells}
use Rattle.release_list.specs.file_chains.MapChanges.{LeavesOffTables}
use Rattle.release_list.specs.file_chains.Moving.{TakesIfHolderFull}
use Rattle.release_list.specs.fileset_files.declared.attributes.Attributes.{Attributes}
use Rattle.release_list.specs.fileset_files.declared.indexing.IndexPlace.{IndexPlace}
use Rattle.release_list.specs.fileset_files.declared.new_cells.NewFile.{NewFile}
use Rattle.release_list.specs.fileset_files.Changes.{ChangesBeside, ChangesFirst, Removes, says_attributes, says_parent, says_removed, with_chain, with_first, without_chain}
use Rattle.release_list.specs.fileset_files.Creation.{Creates, LeavesBeside, TakesForFile, with_new}
use Rattle.release_list.specs.fileset_files.Files.{Chains}
use Rattle.release_list.specs.fileset_files.Index.{says_index}
use Rattle.release_list.specs.fileset_files.Pages.{ChangesFile, TakesHome}
use Rattle.release_list.specs.fileset_files.Together.{AreTogether}
use Rattle.release_list.specs.fileset_files.Truncation.{says_truncated}
use Rattle.release_list.specs.Standing.{with_file}
use Rattle.release_list.specs.Steps.{IsWell, Now}
use Rattle.release_steps.specs.Tags.{AreAmong}
use Rattle.release_steps.specs.Waits.{IsNowhere}

-- a fileset's tag directory and the file of each of its tags, and the domain that they are in
pub record FilesetNow : Type 0 where
  pub places : List TagPlace
  pub chains : Chains
  pub domain : Now

-- a fileset's files belong together with all that they share with the domain's other files, and all
-- of these do with what is left on the list
pub record StandsWell (fileset : ℕ) (now : FilesetNow) : Type 0 where
  pub well : IsWell now.domain
  pub together : AreTogether fileset now.places now.domain.space now.domain.cells now.domain.pages
      now.chains
  pub among : AreAmong now.domain now.places now.chains

-- a call was refused: the count of misses may be another, and all else is as it was
pub record Refuses (old new : FilesetNow) : Type 0 where
  pub places : new.places ≡ old.places
  pub chains : new.chains ≡ old.chains
  pub list : new.domain.list ≡ old.domain.list
  pub files : new.domain.files ≡ old.domain.files
  pub space : (new.domain.space ≡ old.domain.space)
      ⊎ (new.domain.space ≡ missed old.domain.space)
  pub cells : new.domain.cells ≡ old.domain.cells
  pub pages : new.domain.pages ≡ old.domain.pages

-- the tag's file has a page at a home
pub record PutsPage (fileset : ℕ) (version : Version) (tag : Tag) (home : Home)
    (chain : List PlacedCell) (old new : FilesetNow) : Type 0 where
  pub page : ℕ
  pub is : old.chains tag ≡ Some chain
  pub change : ChangesFile fileset old.places tag page (At home) version old.chains new.domain.space
      old.domain.cells new.domain.cells old.domain.pages new.domain.pages chain
  pub others : LeavesOtherCells old.domain.cells chain old.domain.pages new.domain.pages
  pub elsewhere : LeavesOffTables new.domain.cells old.domain.pages new.domain.pages
  pub places : new.places ≡ old.places
  pub chains : new.chains ≡ with_chain tag (λ _. change.change.changes.after) old.chains
  pub list : new.domain.list ≡ old.domain.list
  pub files : new.domain.files
      ≡ with_file change.start (Some change.change.changes.after) old.domain.files

-- a free page was taken for it
pub record Gives (fileset : ℕ) (version : Version) (tag : Tag) (old new : FilesetNow) : Type 0 where
  pub home : Home
  pub chain : List PlacedCell
  pub puts : PutsPage fileset version tag home chain old new
  pub prefer : ℕ
  pub taken : TakesHome prefer puts.page home chain old.domain.space new.domain.space
      old.domain.cells new.domain.cells old.domain.pages

-- or it is one that the caller held, of no file and not on the list
pub record Moves (fileset : ℕ) (version : Version) (tag : Tag) (old new : FilesetNow) : Type 0 where
  pub home : Home
  pub chain : List PlacedCell
  pub puts : PutsPage fileset version tag home chain old new
  pub taken : TakesIfHolderFull puts.page (At home) chain home.vol old.domain.space new.domain.space
      old.domain.cells new.domain.cells old.domain.pages
  pub nowhere : IsNowhere old.domain.files home
  pub not_listed : ¬ Contains old.domain.list.tag_pages home

-- the first cell of the tag's file says something else
pub record SetsFirst (fileset : ℕ) (tag : Tag) (says : Cell → Cell) (old new : FilesetNow) : Type 0
  where
    pub first : PlacedCell
    pub rest : List PlacedCell
    pub is : old.chains tag ≡ Some (first ∷ rest)
    pub together : AreTogether fileset old.places old.domain.space old.domain.cells new.domain.pages
        (with_chain tag (with_first says) old.chains)
    pub beside : ChangesFirst (old.chains tag) old.domain.pages new.domain.pages
    pub places : new.places ≡ old.places
    pub chains : new.chains ≡ with_chain tag (with_first says) old.chains
    pub list : new.domain.list ≡ old.domain.list
    pub files : new.domain.files
        ≡ with_file first.at (Some (with_first says (first ∷ rest))) old.domain.files
    pub space : new.domain.space ≡ old.domain.space
    pub cells : new.domain.cells ≡ old.domain.cells

-- the tag names nothing any more, and its file says that it is to be removed
pub record Drops (fileset : ℕ) (tag : Tag) (old new : FilesetNow) : Type 0 where
  pub first : PlacedCell
  pub rest : List PlacedCell
  pub is : old.chains tag ≡ Some (first ∷ rest)
  pub at : CellAt
  pub removes : Removes fileset old.places tag at old.chains new.domain.pages
  pub together : AreTogether fileset old.places old.domain.space old.domain.cells new.domain.pages
      (without_chain tag old.chains)
  pub beside : ChangesBeside old.places (old.chains tag) old.domain.pages new.domain.pages
  pub places : new.places ≡ old.places
  pub chains : new.chains ≡ without_chain tag old.chains
  pub list : new.domain.list ≡ old.domain.list
  pub files : new.domain.files
      ≡ with_file at (Some (with_first says_removed (first ∷ rest))) old.domain.files
  pub space : new.domain.space ≡ old.domain.space
  pub cells : new.domain.cells ≡ old.domain.cells

-- the tag names a new file
pub record Makes (fileset : ℕ) (version : Version) (tag : Tag) (old new : FilesetNow) : Type 0 where
  pub what : NewFile
  pub creates : Creates fileset new.places tag version what old.chains new.domain.space
      old.domain.cells new.domain.cells old.domain.pages new.domain.pages
  pub prefer : ℕ
  pub taken : TakesForFile prefer old.places new.places old.domain.space new.domain.space
      old.domain.cells new.domain.cells old.domain.pages
  pub others : LeavesOtherCells old.domain.cells [] old.domain.pages new.domain.pages
  pub elsewhere : LeavesBeside new.domain.cells new.places old.domain.pages new.domain.pages
  pub chains : new.chains ≡ with_new tag (creates.first ∷ []) old.chains
  pub list : new.domain.list ≡ old.domain.list
  pub files : new.domain.files
      ≡ with_file creates.first.at (Some (creates.first ∷ [])) old.domain.files

-- what a call on the tag may do
pub data Call (fileset : ℕ) (version : Version) (tag : Tag) (old new : FilesetNow) : Type 0 where
  refused : Refuses old new → Call fileset version tag old new
  given : Gives fileset version tag old new → Call fileset version tag old new
  moved : Moves fileset version tag old new → Call fileset version tag old new
  described : (value : Attributes) → SetsFirst fileset tag (says_attributes value) old new
      → Call fileset version tag old new
  put_in : (parent : Tag) → SetsFirst fileset tag (says_parent parent) old new
      → Call fileset version tag old new
  indexed : (index : Option IndexPlace) → SetsFirst fileset tag (says_index index) old new
      → Call fileset version tag old new
  cut : (size : ℕ) (lowered : Option ℕ)
      → SetsFirst fileset tag (says_truncated size lowered) old new
      → Call fileset version tag old new
  dropped : Drops fileset tag old new → Call fileset version tag old new
  made : Makes fileset version tag old new → Call fileset version tag old new

-- any number of them, one after the other
pub data Calls (fileset : ℕ) (version : Version) (tag : Tag) (first : FilesetNow)
    : FilesetNow → Type 0 where
  no_call : Calls fileset version tag first first
  one_more : (between last : FilesetNow) → Calls fileset version tag first between
      → Call fileset version tag between last → Calls fileset version tag first last
