-- What a set of files shows, and where the indexes of its directories stand.
use Rattle.std.specs.Prelude.{◌≡◌, ◌≤◌, ℕ, true, List, Contains, if◌then◌else◌}
use Rattle.std.specs.Option.{option_and_then}
use Rattle.index_pages.specs.domain_base.declared.place.Home.{Home}
use Rattle.index_pages.specs.domain_base.declared.place.Tag.{Tag}
use Rattle.index_pages.specs.page_store.Bitfiles.{Bitfile, Bitfiles, same_tag}
use Rattle.index_pages.specs.page_store.Pages.{Pages}
use Rattle.index_pages.specs.tag_dirs.Directory.{has_home}
use Rattle.index_pages.specs.tag_dirs.declared.dir.TagPlace.{TagPlace}
use Rattle.index_pages.specs.extent_maps.declared.run.PagePlace.TheVariants.{At}
use Rattle.index_pages.specs.free_cells.Cells.{Cells}
use Rattle.index_pages.specs.free_space.Spaces.{Spaces}
use Rattle.index_pages.specs.fileset_files.declared.attributes.Attributes.{Attributes}
use Rattle.index_pages.specs.fileset_files.Files.{Chains, place_at}
use Rattle.index_pages.specs.fileset_files.Shown.{Shows, index_of}
use Rattle.index_pages.specs.fileset_files.Together.{AreTogether, IsFilePage}
use Rattle.index_pages.specs.Homes.{AreIndexHomes}

-- the homes of the pages of each tag's index
abbrev pub Indexes : Type 0
Indexes = Tag → List Home

-- files that belong together, what a set shows of them, and their indexes, each of which stands on
-- pages of its own
pub record StandsShown (fileset : ℕ) (places : List TagPlace) (space : Spaces) (cells : Cells)
    (pages : Pages) (chains : Chains) (indexes : Indexes) (files : Bitfiles) : Type 0 where
  pub together : AreTogether fileset places space cells pages chains
  pub shows : Shows pages chains files
  pub indexed : (tag : Tag)
      → AreIndexHomes pages (option_and_then index_of (chains tag)) (indexes tag)
  pub stand : (tag : Tag) (home : Home) → Contains (indexes tag) home
      → IsFilePage space cells places home
  pub apart : (s t : Tag) (page : ℕ) (home : Home) → Contains (indexes s) home
      → ¬ place_at chains t page ≡ At home
  pub once : (s t : Tag) (home : Home) → Contains (indexes s) home → Contains (indexes t) home
      → s ≡ t

-- each page of the tag directory stands on a volume that there may be
abbrev pub AreTagsOnVolumes : List TagPlace → Type 0
AreTagsOnVolumes places = (home : Home) → has_home places home ≡ true → 1 ≤ home.vol

-- the indexes with a tag's index at these homes
abbrev pub with_index : Tag → List Home → Indexes → Indexes
with_index tag homes indexes = λ t. if same_tag t tag then homes else indexes t

-- a file with the owner and the links that these attributes say
abbrev pub owned : Attributes → Bitfile → Bitfile
owned value file = record file { uid = value.uid; gid = value.gid; links = value.links }
