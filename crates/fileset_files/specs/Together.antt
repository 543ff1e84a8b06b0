-- What belongs together: files, their tag directory, free cells and free space.
use Rattle.std.specs.Prelude.{◌≡◌, ℕ, true, false, List, IfSome, Contains}
use Rattle.file_chains.specs.domain_base.declared.place.Home.{Home}
use Rattle.file_chains.specs.domain_base.declared.place.Tag.{Tag}
use Rattle.file_chains.specs.page_store.Pages.{Pages}
use Rattle.tag_dirs.specs.declared.dir.TagPlace.{TagPlace}
use Rattle.tag_dirs.specs.Directory.{has_home}
use Rattle.file_chains.specs.extent_maps.declared.run.PagePlace.TheVariants.{At}
use Rattle.file_chains.specs.free_cells.Cells.{Cells, table_of}
use Rattle.file_chains.specs.free_space.Spaces.{IsHeld, Spaces}
use Rattle.file_chains.specs.Allocated.{AreAllocated}
use Rattle.file_chains.specs.FileChanges.{AreOnTables}
use Rattle.fileset_files.specs.Files.{AreFiles, Chains, place_at}

-- a page that is used, does not wait, and is none of cells
pub record IsHeldApart (space : Spaces) (cells : Cells) (home : Home) : Type 0 where
  pub held : IsHeld space home.vol home.page
  pub off_table : ¬ Contains (table_of cells home.vol) home.page

-- a page that is used, does not wait, is none of cells, and is no page of the tag directory
pub record IsFilePage (space : Spaces) (cells : Cells) (places : List TagPlace) (home : Home)
    : Type 0 where
  pub apart : IsHeldApart space cells home
  pub no_tags : has_home places home ≡ false

-- each page of the tag directory is held and none of cells
abbrev pub AreTagPages : Spaces → Cells → List TagPlace → Type 0
AreTagPages space cells places =
    (home : Home) → has_home places home ≡ true → IsHeldApart space cells home

-- each home that a file has is held and none of cells, and no page of the tag directory stands
-- there
abbrev pub AreFilePages : Spaces → Cells → List TagPlace → Chains → Type 0
AreFilePages space cells places chains = (tag : Tag) (page : ℕ) (home : Home)
    → place_at chains tag page ≡ At home → IsFilePage space cells places home

-- no home is that of two pages
abbrev pub IsEachHomeOnce : Chains → Type 0
IsEachHomeOnce chains = (s t : Tag) (p q : ℕ) (home : Home) → place_at chains s p ≡ At home
    → place_at chains t q ≡ At home → (s ≡ t) × (p ≡ q)

-- the cells of each file stand on pages of their volumes' tables
abbrev pub AreFilesOnTables : Cells → Chains → Type 0
AreFilesOnTables cells chains = (tag : Tag) → IfSome (chains tag) (AreOnTables cells)

-- files whose pages, cells and tags stand where free space and free cells know of it: a file that
-- is to be removed, and so has no tag, is none of them
pub record AreTogether (fileset : ℕ) (places : List TagPlace) (space : Spaces) (cells : Cells)
    (pages : Pages) (chains : Chains) : Type 0 where
  pub files : AreFiles fileset places pages chains
  pub allocated : AreAllocated space cells pages
  pub on_tables : AreFilesOnTables cells chains
  pub tag_pages : AreTagPages space cells places
  pub file_pages : AreFilePages space cells places chains
  pub once : IsEachHomeOnce chains

-- there are files for which all this holds
abbrev pub HasTogether : ℕ → List TagPlace → Spaces → Cells → Pages → Type 0
HasTogether fileset places space cells pages =
    (chains : Chains) × AreTogether fileset places space cells pages chains
