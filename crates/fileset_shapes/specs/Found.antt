-- The filesets that were read of a domain's pages: lists of their files, and the shapes that they
-- say.
use Rattle.std.specs.Prelude.{◌≡◌, ◌^◌, ◌<◌, ℕ, List, [], ◌∷◌, Option, Some, None, IsSome, IsSomeAnd, filter_map, map, slice_get, if◌then◌else◌}
use Rattle.std.specs.Option.{option_and_then, option_map}
use Rattle.filesets_reading.specs.domain_base.declared.place.Home.{Home}
use Rattle.filesets_reading.specs.domain_base.declared.place.Kind.{Kind}
use Rattle.filesets_reading.specs.domain_base.declared.place.Kind.TheVariants.{Directory, File}
use Rattle.filesets_reading.specs.domain_base.declared.place.Tag.{Tag}
use Rattle.filesets_reading.specs.page_store.Bitfiles.{Bitfile, same_tag, shown_index}
use Rattle.filesets_reading.specs.page_store.Pages.{Pages}
use Rattle.filesets_reading.specs.metadata_cells.Chain.{PlacedCell}
use Rattle.filesets_reading.specs.fileset_values.declared.command.Owner.{Owner}
use Rattle.filesets_reading.specs.fileset_table.Table.{Table}
use Rattle.filesets_reading.specs.fileset_table.declared.slot.FilesetEntry.{FilesetEntry}
use Rattle.filesets_reading.specs.fileset_table.declared.slot.SlotItem.{SlotItem}
use Rattle.filesets_reading.specs.fileset_table.declared.slot.SlotItem.TheVariants as slot
use Rattle.fileset_shapes.specs.Stored.{AreStored, bytes_at}
use Rattle.filesets_reading.specs.domain_layout.DirectoryRules.{Has}
use Rattle.filesets_reading.specs.domain_layout.Faults.{SaysTable}
use Rattle.filesets_reading.specs.domain_layout.Reached.{Frame, IsWithin}
use Rattle.filesets_reading.specs.domain_layout.Seen.{SeenFile}
use Rattle.filesets_reading.specs.domain_layout.Shape.{FilesetShape, IsShapeOf, limits_in}
use Rattle.filesets_reading.specs.Seen.{HasFewHomes, IsSeenThere}
use Rattle.fileset_shapes.specs.declared.found.FilesetSeen.{FilesetSeen}
use Rattle.fileset_shapes.specs.declared.found.TaggedFile.{TaggedFile}

-- a page stands at each home of a domain's members where a fileset has a page of a file
abbrev pub HasAllPages : Pages → Frame → Type 0
HasAllPages pages frame = (table : Table) → SaysTable pages frame table
    → (number : ℕ) (tag : Tag) (cells : List PlacedCell) (seen : SeenFile)
    → Has pages table number tag cells seen → (page : ℕ) (home : Home)
    → seen.homes page ≡ Some home → IsWithin frame home → IsSome (pages home)

-- ** Files

-- the file with a tag
abbrev pub file_at : List TaggedFile → Tag → Option TaggedFile
file_at [] tag = None
file_at (file ∷ more) tag = if same_tag file.tag tag then Some file else file_at more tag

-- no tag stands twice
abbrev pub HaveOwnTags : List TaggedFile → Type 0
HaveOwnTags files = (i j : ℕ) (one other : TaggedFile) → slice_get files i ≡ Some one
    → slice_get files j ≡ Some other → one.tag ≡ other.tag → i ≡ j

-- the pages that stand at homes, but for those that are none
abbrev pub pages_at : Pages → List (Option Home) → List (List ℕ)
pages_at pages homes = filter_map (option_and_then pages) homes

-- the pages that a set shows of a file of this kind: only a directory's
abbrev pub shown_pages : Pages → List (Option Home) → Kind → List (List ℕ)
shown_pages pages homes Directory = pages_at pages homes
shown_pages pages homes File = []

-- the pages of an index as a set shows them
abbrev pub index_shown : Pages → List Home → List (List ℕ)
index_shown pages homes = map (λ home. shown_index (bytes_at pages home)) homes

-- a file or directory as a set shows it
abbrev pub shown_by : Pages → TaggedFile → Bitfile
shown_by pages file =
    record {
      kind = file.seen.is.kind;
      uid = file.seen.is.uid;
      gid = file.seen.is.gid;
      links = file.seen.is.links;
      pages = shown_pages pages file.seen.homes.items file.seen.is.kind;
      index = index_shown pages file.index.items;
    }

-- no more homes than a file has pages, and a page stands at each
pub record IsStored (pages : Pages) (file : TaggedFile) : Type 0 where
  pub few : HasFewHomes file.seen
  pub stored : AreStored pages file.seen.homes.items

-- ** Filesets

-- what was read of a fileset says this shape
pub record SeesShape (pages : Pages) (entry : FilesetEntry) (shape : FilesetShape)
    (found : FilesetSeen) : Type 0 where
  pub original : found.original ≡ shape.original
  pub once : HaveOwnTags found.files.items
  pub small : (place : ℕ) (file : TaggedFile) → slice_get found.files.items place ≡ Some file
      → file.tag.seq < 2 ^ 16
  pub files : (tag : Tag) → IsSeenThere (shape.files tag)
      (option_map (λ (file : TaggedFile). file.seen) (file_at found.files.items tag))
  pub shown : (tag : Tag) → shape.shown tag
      ≡ option_map (shown_by pages) (file_at found.files.items tag)
  pub stored : (place : ℕ) (file : TaggedFile) → slice_get found.files.items place ≡ Some file
      → IsStored pages file
  pub limits : (who : Owner) → shape.limits who ≡ limits_in entry found.quotas who

-- the shape of a fileset in a slot, and what was read of it
pub record SeesFileset (pages : Pages) (table : Table) (number : ℕ) (item : SlotItem)
    (entry : FilesetEntry) (found : FilesetSeen) : Type 0 where
  pub shape : FilesetShape
  pub is : IsShapeOf pages table number item (Some shape)
  pub sees : SeesShape pages entry shape found

-- what was read of what is in a slot: nothing if no fileset is, or one that is being removed
abbrev pub SeesItem : Pages → Table → ℕ → SlotItem → Option FilesetSeen → Type 0
SeesItem pages table number slot.Free found = found ≡ None
SeesItem pages table number (slot.Removed first_tag quota) found = found ≡ None
SeesItem pages table number (slot.Original entry) found =
    IsSomeAnd found (SeesFileset pages table number (slot.Original entry) entry)
SeesItem pages table number (slot.Clone of clone entry) found =
    IsSomeAnd found (SeesFileset pages table number (slot.Clone of clone entry) entry)

-- what was read of a slot is what is in it, and nothing was read of an empty one
abbrev pub SeesSlot : Pages → Table → ℕ → Option FilesetSeen → Type 0
SeesSlot pages table number found = (item : SlotItem) → slice_get table.slots number ≡ Some item
    → SeesItem pages table number item found
