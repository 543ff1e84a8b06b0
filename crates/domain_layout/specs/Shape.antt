-- The shape of a domain's filesets: all that their pages of metadata say, which is each fileset
-- with homes in the place of the bytes of its files.
use Rattle.std.specs.Prelude.{◌≡◌, ℕ, List, [], Option, Some, None, IfSome, IsSome, IsSomeAnd, slice_get}
use Rattle.std.specs.Option.{option_and_then}
use Rattle.file_release.specs.domain_base.declared.place.CellAt.{CellAt}
use Rattle.file_release.specs.domain_base.declared.place.Home.{Home}
use Rattle.file_release.specs.domain_base.declared.place.Kind.{Kind}
use Rattle.file_release.specs.domain_base.declared.place.Kind.TheVariants.{Directory, File}
use Rattle.file_release.specs.domain_base.declared.place.Tag.{Tag}
use Rattle.file_release.specs.page_store.Bitfiles.{Bitfile, Bitfiles}
use Rattle.file_release.specs.page_store.Pages.{Pages}
use Rattle.file_release.specs.cell_records.declared.record.Record.{Record}
use Rattle.file_release.specs.metadata_cells.Chain.{LinksFrom, PlacedCell, records_of}
use Rattle.file_release.specs.tag_dirs.declared.dir.TagPlace.{TagPlace}
use Rattle.file_release.specs.tag_dirs.Directory.{IsDirectoryAt}
use Rattle.file_release.specs.fileset_files.Files.{AreFiles, Chains}
use Rattle.file_release.specs.fileset_files.Shown.{IsWhat, Shows}
use Rattle.name_space.specs.fileset_values.Orders.{Name}
use Rattle.name_space.specs.fileset_values.declared.command.Owner.{Owner}
use Rattle.name_space.specs.fileset_values.declared.command.Owner.TheVariants as owner
use Rattle.name_space.specs.fileset_model.declared.fileset.Limits.{Limits}
use Rattle.fileset_table.specs.Page.{IsTablePage}
use Rattle.fileset_table.specs.Table.{Table, entry_of}
use Rattle.fileset_table.specs.declared.slot.FilesetEntry.{FilesetEntry}
use Rattle.fileset_table.specs.declared.slot.SlotItem.{SlotItem}
use Rattle.fileset_table.specs.declared.slot.SlotItem.TheVariants as slot
use Rattle.quota_book.specs.QuotaCells.{limits_at, said_by}
use Rattle.domain_layout.specs.Seen.{IsOfClone, SeenFile, seen_in}

-- a fileset: the original's name where it is a clone, what each tag names with the homes of its
-- pages, what a set of files shows of it, and the limits of owners
pub record FilesetShape : Type 0 where
  pub original : Option Name
  pub files : Tag → Option SeenFile
  pub shown : Bitfiles
  pub limits : Owner → Limits

-- ** Limits

-- the records of the chain of quota cells that begins there, if one does
abbrev pub AreQuotas : Pages → Option CellAt → List Record → Type 0
AreQuotas pages None records = records ≡ []
AreQuotas pages (Some at) records = (cells : List PlacedCell) × LinksFrom pages at cells
    × (records ≡ records_of cells)

-- an owner's limits: the fileset's own stand in its slot
abbrev pub limits_in : FilesetEntry → List Record → Owner → Limits
limits_in entry records (owner.User uid) = limits_at (said_by records) (owner.User uid)
limits_in entry records (owner.Group gid) = limits_at (said_by records) (owner.Group gid)
limits_in entry records owner.Fileset =
    record { files = entry.files_limit; blocks = entry.blocks_limit }

pub record AreLimits (pages : Pages) (entry : FilesetEntry) (limits : Owner → Limits) : Type 0 where
  pub records : List Record
  pub quotas : AreQuotas pages entry.quota records
  pub each : (who : Owner) → limits who ≡ limits_in entry records who

-- ** Files

-- the files of the fileset in a slot, by the chains of their tags
pub record HasChains (pages : Pages) (number : ℕ) (entry : FilesetEntry) (chains : Chains)
    : Type 0 where
  pub places : List TagPlace
  pub directory : IsDirectoryAt pages entry.first_tag places
  pub files : AreFiles number places pages chains

-- a page of a file of this kind, as far as a set shows it: only those of directories
abbrev pub shown_at : Pages → SeenFile → Kind → ℕ → Option (List ℕ)
shown_at pages seen Directory number = option_and_then pages (seen.homes number)
shown_at pages seen File number = None

-- what a set shows of a file of a clone: no index
pub record ShowsSeen (pages : Pages) (seen : SeenFile) (file : Bitfile) : Type 0 where
  pub what : IsWhat file seen.is
  pub each : (number : ℕ) → slice_get file.pages number
      ≡ shown_at pages seen file.kind number
  pub index : file.index ≡ []

abbrev pub ShowsSeenAt : Pages → Option SeenFile → Option Bitfile → Type 0
ShowsSeenAt pages None file = file ≡ None
ShowsSeenAt pages (Some seen) file = IsSomeAnd file (ShowsSeen pages seen)

-- ** Filesets

-- an original in a slot has this shape
pub record IsOriginal (pages : Pages) (number : ℕ) (entry : FilesetEntry) (shape : FilesetShape)
    : Type 0 where
  pub none : shape.original ≡ None
  pub chains : Chains
  pub has : HasChains pages number entry chains
  pub files : (tag : Tag) → shape.files tag ≡ option_and_then seen_in (chains tag)
  pub shown : Shows pages chains shape.shown
  pub limits : AreLimits pages entry shape.limits

-- a clone with this number in a slot, of the original in another, has this shape
pub record IsClone (pages : Pages) (number of : ℕ) (entry original : FilesetEntry) (clone : ℕ)
    (shape : FilesetShape) : Type 0 where
  pub named : shape.original ≡ Some original.name
  pub chains : Chains
  pub has : HasChains pages number entry chains
  pub behind : Chains
  pub has_behind : HasChains pages of original behind
  pub files : (tag : Tag) → IsOfClone pages clone (chains tag) (behind tag) (shape.files tag)
  pub shown : (tag : Tag) → ShowsSeenAt pages (shape.files tag) (shape.shown tag)
  pub limits : AreLimits pages entry shape.limits

-- what is in a slot of a table has this shape: a free slot, and one of a fileset that is being
-- removed, has none
abbrev pub IsShapeOf : Pages → Table → ℕ → SlotItem → Option FilesetShape → Type 0
IsShapeOf pages table number slot.Free shape = shape ≡ None
IsShapeOf pages table number (slot.Removed first_tag quota) shape = shape ≡ None
IsShapeOf pages table number (slot.Original entry) shape =
    IsSomeAnd shape (IsOriginal pages number entry)
IsShapeOf pages table number (slot.Clone of clone entry) shape =
    IsSomeAnd (option_and_then entry_of (slice_get table.slots of))
    (λ original. IsSomeAnd shape (IsClone pages number of entry original clone))

-- the shapes of all filesets, by their names
abbrev pub Shapes : Type 0
Shapes = Name → Option FilesetShape

-- a slot of the table has a fileset with that name
pub record HasFileset (table : Table) (name : Name) : Type 0 where
  pub number : ℕ
  pub item : SlotItem
  pub there : slice_get table.slots number ≡ Some item
  pub named : IsSomeAnd (entry_of item) (λ entry. entry.name ≡ name)

-- each fileset of a table has its shape, and there is no other
pub record AreShapesOf (pages : Pages) (table : Table) (shapes : Shapes) : Type 0 where
  pub each : (number : ℕ) (item : SlotItem) → slice_get table.slots number ≡ Some item
      → IfSome (entry_of item)
      (λ entry. IsShapeOf pages table number item (shapes entry.name))
  pub only : (name : Name) → IsSome (shapes name) → HasFileset table name

-- pages of metadata with the table at this home have these shapes
pub record HaveShapes (pages : Pages) (home : Home) (shapes : Shapes) : Type 0 where
  pub table : Table
  pub there : IsSomeAnd (pages home) (λ page. IsTablePage page table)
  pub are : AreShapesOf pages table shapes

-- ** One shape

-- two files that are the same, with the same homes
pub record IsSameSeen (a b : SeenFile) : Type 0 where
  pub is : a.is ≡ b.is
  pub homes : (page : ℕ) → a.homes page ≡ b.homes page

abbrev pub IsSameThere : Option SeenFile → Option SeenFile → Type 0
IsSameThere None seen = seen ≡ None
IsSameThere (Some a) seen = IsSomeAnd seen (IsSameSeen a)

-- two shapes that say the same of each tag and owner
pub record IsSameShape (a b : FilesetShape) : Type 0 where
  pub original : a.original ≡ b.original
  pub files : (tag : Tag) → IsSameThere (a.files tag) (b.files tag)
  pub shown : (tag : Tag) → a.shown tag ≡ b.shown tag
  pub limits : (who : Owner) → a.limits who ≡ b.limits who

abbrev pub IsSameShapeThere : Option FilesetShape → Option FilesetShape → Type 0
IsSameShapeThere None shape = shape ≡ None
IsSameShapeThere (Some a) shape = IsSomeAnd shape (IsSameShape a)
