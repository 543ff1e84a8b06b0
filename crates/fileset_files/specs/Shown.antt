-- What of a fileset's files the layers above see: a set of files and directories, with the pages of
-- directories and of their indexes.
use Rattle.std.specs.Prelude.{◌≡◌, ℕ, List, [], ◌∷◌, Option, Some, None, IsSomeAnd, slice_get}
use Rattle.std.specs.Option.{option_and_then}
use Rattle.file_chains.specs.domain_base.declared.place.Home.{Home}
use Rattle.file_chains.specs.domain_base.declared.place.Kind.TheVariants.{Directory, File}
use Rattle.file_chains.specs.domain_base.declared.place.Kind.{Kind}
use Rattle.file_chains.specs.domain_base.declared.place.Tag.{Tag}
use Rattle.file_chains.specs.page_store.Bitfiles.{Bitfile, Bitfiles, shown_index}
use Rattle.file_chains.specs.page_store.Pages.{Pages}
use Rattle.file_chains.specs.cell_records.declared.record.Record.{Record}
use Rattle.file_chains.specs.cell_records.declared.record.Record.TheVariants as written
use Rattle.file_chains.specs.metadata_cells.Chain.{PlacedCell}
use Rattle.tag_dirs.specs.TagPage.{next_of}
use Rattle.file_chains.specs.extent_maps.declared.run.PagePlace.{PagePlace}
use Rattle.file_chains.specs.extent_maps.declared.run.PagePlace.TheVariants.{Absent, At, Hole}
use Rattle.file_chains.specs.Files.{places_of}
use Rattle.fileset_files.specs.declared.attributes.Attributes.{Attributes}
use Rattle.fileset_files.specs.Files.{Chains, attributes_of, first_record, of_live}

-- the page at the home that a place names
abbrev pub page_there : Pages → PagePlace → Option (List ℕ)
page_there pages (At home) = pages home
page_there pages Hole = None
page_there pages Absent = None

-- a page of a file with these cells, as far as a set shows it: only those of directories
abbrev pub shown_page : Pages → List PlacedCell → Kind → ℕ → Option (List ℕ)
shown_page pages cells Directory number = page_there pages (places_of cells number)
shown_page pages cells File number = None

-- where the index of a directory begins, by its record if its first cell has one
abbrev pub index_in : Record → Option Home
index_in (written.DirIndex vol page entries) = Some (record { vol = vol; page = page })
index_in _ = None

-- where the index of a directory begins
abbrev pub index_of : List PlacedCell → Option Home
index_of cells = option_and_then index_in (first_record 9 cells)

-- from a home on each index page leads to the next, and the last to none
abbrev pub AreIndexPages : Pages → Option Home → List (List ℕ) → Type 0
AreIndexPages pages None [] = Unit {0}
AreIndexPages pages (Some home) (page ∷ more) = IsSomeAnd (pages home)
    (λ stored. (page ≡ shown_index stored) × AreIndexPages pages (next_of stored) more)
AreIndexPages pages None (page ∷ more) = ⊥
AreIndexPages pages (Some home) [] = ⊥

-- what a file is by its attributes: its kind, its owner and its links, but not its size
pub record IsWhat (file : Bitfile) (is : Attributes) : Type 0 where
  pub kind : file.kind ≡ is.kind
  pub uid : file.uid ≡ is.uid
  pub gid : file.gid ≡ is.gid
  pub links : file.links ≡ is.links

-- what a set shows of the file with these cells
pub record ShowsFile (pages : Pages) (cells : List PlacedCell) (file : Bitfile) : Type 0 where
  pub what : IsSomeAnd (attributes_of cells) (IsWhat file)
  pub each : (number : ℕ) → slice_get file.pages number ≡ shown_page pages cells file.kind number
  pub index : AreIndexPages pages (index_of cells) file.index

-- what a tag names there: nothing where it has no file, or one that is to be removed
abbrev pub ShowsAt : Pages → Option (List PlacedCell) → Option Bitfile → Type 0
ShowsAt pages chain None = option_and_then (of_live attributes_of) chain ≡ None
ShowsAt pages None (Some file) = ⊥
ShowsAt pages (Some cells) (Some file) =
    IsSomeAnd (of_live Some cells) (λ live. ShowsFile pages live file)

-- the set that these files are
abbrev pub Shows : Pages → Chains → Bitfiles → Type 0
Shows pages chains files = (tag : Tag) → ShowsAt pages (chains tag) (files tag)

-- two sets that are shown agree on each tag
abbrev pub ShowOnce : Type 0
ShowOnce = (pages : Pages) (chains : Chains) (one other : Bitfiles) → Shows pages chains one
    → Shows pages chains other → (tag : Tag) → one tag ≡ other tag
