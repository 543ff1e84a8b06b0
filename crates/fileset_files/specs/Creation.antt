-- A new file or directory.
use Rattle.std.specs.Prelude.{◌≡◌, ◌==◌, ◌≤◌, ◌+◌, ◌⊎◌, ◌++◌, ℕ, true, false, List, [], ◌∷◌, Option, Some, None, IsSomeAnd, Contains, if◌then◌else◌, unwrap_or}
use Rattle.std.specs.List.{AllByRecursion}
use Rattle.file_chains.specs.domain_base.declared.place.CellAt.{CellAt}
use Rattle.file_chains.specs.domain_base.declared.place.Home.{Home}
use Rattle.file_chains.specs.domain_base.declared.place.Kind.{Kind}
use Rattle.file_chains.specs.domain_base.declared.place.Kind.TheVariants.{Directory, File}
use Rattle.file_chains.specs.domain_base.declared.place.Tag.{Tag}
use Rattle.file_chains.specs.domain_base.declared.version.Version.{Version}
use Rattle.file_chains.specs.page_store.Pages.{Pages, same_home}
use Rattle.file_chains.specs.page_store.Bitfiles.{same_tag}
use Rattle.file_chains.specs.page_store.declared.fault.StoreFault.{StoreFault}
use Rattle.file_chains.specs.page_store.declared.fault.StoreFault.TheVariants.{NoPage, OutOfMemory}
use Rattle.file_chains.specs.cell_records.declared.record.Record.{Record}
use Rattle.file_chains.specs.cell_records.declared.record.Record.TheVariants as written
use Rattle.file_chains.specs.cell_records.Records.{kind_of}
use Rattle.file_chains.specs.metadata_cells.Cell.{AreRecords, Cell, record_of}
use Rattle.file_chains.specs.metadata_cells.declared.head.CellHead.{CellHead}
use Rattle.file_chains.specs.metadata_cells.declared.head.CellKind.TheVariants.{Primary}
use Rattle.file_chains.specs.metadata_cells.CellPage.{KeepsHeaders, KeepsWellFormed, home_of}
use Rattle.file_chains.specs.metadata_cells.Chain.{LeavesOthers, PlacedCell, StandsAt, is_at}
use Rattle.tag_dirs.specs.declared.dir.TagPlace.{TagPlace}
use Rattle.tag_dirs.specs.TagPage.{IsNewPage}
use Rattle.tag_dirs.specs.Directory.{CanTake as CanTakeTag, IsNextIndex, SetsTag, has_home, sequence_of}
use Rattle.file_chains.specs.extent_maps.declared.run.PagePlace.TheVariants.{Absent}
use Rattle.file_chains.specs.extent_records.Rows.{runs_in}
use Rattle.file_chains.specs.extent_records.Writing.{IsMapRecord, short_kind}
use Rattle.file_chains.specs.free_cells.Cells.{Cells, can_take, table_of}
use Rattle.file_chains.specs.free_space.VolumeSpace.{with_page}
use Rattle.file_chains.specs.free_space.Spaces.{CanTake, Spaces, change_volume, missed}
use Rattle.file_chains.specs.Changes.{with_kind}
use Rattle.file_chains.specs.FileChanges.{map_kinds}
use Rattle.file_chains.specs.Files.{map_records, places_of}
use Rattle.file_chains.specs.MapChanges.{TakesOne}
use Rattle.fileset_files.specs.declared.new_cells.NewFile.{NewFile}
use Rattle.fileset_files.specs.Changes.{kind_number}
use Rattle.fileset_files.specs.Files.{Chains, is_first_kind}
use Rattle.fileset_files.specs.Together.{AreTogether}

-- what a new file is before it has a tag
abbrev pub new_file : Kind → ℕ → ℕ → ℕ → NewFile
new_file kind uid gid birth = record { kind = kind; uid = uid; gid = gid; birth = birth }

-- the attributes of a new file: no byte, one link, and all pages kept
abbrev pub new_attributes : NewFile → Record
new_attributes what =
    written.Attributes (kind_number what.kind) what.uid what.gid 0 0 65536 1 what.birth 0

-- a new directory stands in itself, until another is said
abbrev pub new_parent : Kind → Tag → Option Record
new_parent File tag = None
new_parent Directory tag = Some (written.Parent tag.slot tag.seq)

-- the records of a new file's first cell: these, one of extents as the version writes it, and no
-- other
pub record SaysNew (version : Version) (what : NewFile) (tag : Tag) (records : List Record)
    : Type 0 where
  pub attributes : record_of 1 records ≡ Some (new_attributes what)
  pub parent : record_of 10 records ≡ new_parent what.kind tag
  pub map : map_kinds records ≡ short_kind version ∷ []
  pub others : (kind : ℕ) → ¬ kind ≡ 1 → ¬ kind ≡ 10 → ¬ kind ≡ short_kind version
      → record_of kind records ≡ None

-- the files with a new one at the tag
abbrev pub with_new : Tag → List PlacedCell → Chains → Chains
with_new tag chain chains = λ t. if same_tag t tag then Some chain else chains t

-- the tag, which named nothing, names a new file of one cell, which was in no use; every other file
-- is as it was, and all belongs together again
pub record Creates (fileset : ℕ) (places : List TagPlace) (tag : Tag) (version : Version)
    (what : NewFile) (chains : Chains) (space : Spaces) (cells cells_now : Cells)
    (old new : Pages) : Type 0 where
  pub fresh : chains tag ≡ None
  pub first : PlacedCell
  pub says : SaysNew version what tag first.cell.records
  pub no_page : (page : ℕ) → places_of (first ∷ []) page ≡ Absent
  pub was_free : (cell : Cell) → StandsAt old first.at cell
      → ¬ Contains (table_of cells first.at.vol) first.at.page
  pub together : AreTogether fileset places space cells_now new
      (with_new tag (first ∷ []) chains)

-- the last sequence that a tag of a slot had, and 0 if none had one
abbrev pub last_sequence : Pages → List TagPlace → ℕ → ℕ
last_sequence pages places slot = unwrap_or (sequence_of pages places slot) 0

-- the tag has the sequence after the last one of its slot, and no other slot's rises
pub record TakesNext (tag : Tag) (places places_now : List TagPlace) (old new : Pages) : Type 0 where
  pub next : tag.seq ≡ last_sequence old places tag.slot + 1
  pub sequences : (slot : ℕ) → last_sequence new places_now slot
      ≡ (if slot == tag.slot then tag.seq else last_sequence old places slot)

-- a cell is handed out, and the directory's pages stay
pub record TakesCellOnly (prefer : ℕ) (places places_now : List TagPlace) (space space_now : Spaces)
    (cells cells_now : Cells) (old : Pages) : Type 0 where
  pub same : places_now ≡ places
  pub cell : TakesOne prefer space space_now cells cells_now old

-- no tag could be taken: a free page is taken for more, of the preferred volume if that has one,
-- and then a cell is handed out
pub record TakesTagPage (prefer : ℕ) (places places_now : List TagPlace)
    (space space_now : Spaces) (cells cells_now : Cells) (old : Pages) : Type 0 where
  pub none : (tag : Tag) → ¬ CanTakeTag old places tag
  pub index : ℕ
  pub home : Home
  pub next : IsNextIndex index places
  pub joins : places_now ≡ places ++ record { index = index; home = home } ∷ []
  pub low : 1 ≤ home.vol
  pub free : CanTake space home.vol home.page
  pub preferred : (p : ℕ) → CanTake space prefer p → home.vol ≡ prefer
  pub cell : TakesOne prefer (change_volume (with_page home.page) space home.vol) space_now cells
      cells_now old

-- for a new file one cell was taken, and a page of tags more only if no entry was free
abbrev pub TakesForFile : ℕ → List TagPlace → List TagPlace → Spaces → Spaces → Cells → Cells
    → Pages → Type 0
TakesForFile prefer places places_now space space_now cells cells_now old =
    TakesCellOnly prefer places places_now space space_now cells cells_now old
    ⊎ TakesTagPage prefer places places_now space space_now cells cells_now old

-- no page is free, and no cell or no tag can be taken
pub record LacksPage (places : List TagPlace) (space : Spaces) (cells : Cells) (old : Pages)
    : Type 0 where
  pub no_page : (vol p : ℕ) → ¬ CanTake space vol p
  pub wanted : ((at : CellAt) → can_take cells at ≡ false)
      ⊎ ((tag : Tag) → ¬ CanTakeTag old places tag)

-- no tag and no cell can be taken, and beside the one for more tags no page is free
pub record LacksTwo (places : List TagPlace) (space : Spaces) (cells : Cells) (old : Pages)
    : Type 0 where
  pub no_tag : (tag : Tag) → ¬ CanTakeTag old places tag
  pub no_cell : (at : CellAt) → can_take cells at ≡ false
  pub home : Home
  pub free : CanTake space home.vol home.page
  pub no_other : (vol p : ℕ)
      → ¬ CanTake (change_volume (with_page home.page) space home.vol) vol p

-- no file is made for want of a page, which is a miss; or memory was short
abbrev pub CreatesNone : List TagPlace → Spaces → Spaces → Cells → Pages → StoreFault → Type 0
CreatesNone places space space_now cells old NoPage =
    (LacksPage places space cells old ⊎ LacksTwo places space cells old)
    × (space_now ≡ missed space)
CreatesNone places space space_now cells old OutOfMemory = space_now ≡ space

-- each page stays that stands on no volume's table and is none of the tag directory
abbrev pub LeavesBeside : Cells → List TagPlace → Pages → Pages → Type 0
LeavesBeside cells places old new = (home : Home) → ¬ Contains (table_of cells home.vol) home.page
    → has_home places home ≡ false → new home ≡ old home

-- the tag of the root directory of each fileset
abbrev pub root_tag : Tag
root_tag = record { slot = 1; seq = 1 }

-- the tag directory of a new fileset: one page, whose entries were never used
pub record IsNewDirectory (pages : Pages) (places : List TagPlace) : Type 0 where
  pub home : Home
  pub one : places ≡ record { index = 0; home = home } ∷ []
  pub page : IsSomeAnd (pages home) (IsNewPage 0)

-- ** What the functions within the crate answer

-- the head of a file's only cell
abbrev pub new_head : ℕ → Tag → CellHead
new_head fileset tag = record {
  next = None;
  slot = tag.slot;
  seq = tag.seq;
  fileset = Some fileset;
  kind = Primary;
}

-- records of attributes and of extents that say no page
pub record AreNewFile (version : Version) (what : NewFile) (records : List Record) : Type 0 where
  pub value : Record
  pub of_kind : kind_of value ≡ short_kind version
  pub is_map : IsMapRecord value
  pub empty : runs_in value ≡ []
  pub all : records ≡ with_kind (short_kind version) (Some value)
      (with_kind 1 (Some (new_attributes what)) [])

-- records of a new file's first cell
pub record AreNew (version : Version) (what : NewFile) (tag : Tag) (records : List Record)
    : Type 0 where
  pub says : SaysNew version what tag records
  pub good : AreRecords records
  pub kinds : AllByRecursion (λ r. is_first_kind (kind_of r) ≡ true) records
  pub value : Record
  pub only : map_records records ≡ value ∷ []
  pub is_map : IsMapRecord value
  pub empty : runs_in value ≡ []

-- a tag leads to a cell, which then is the first one of its file, with these records
pub record Enters (fileset : ℕ) (places : List TagPlace) (tag : Tag) (at : CellAt)
    (records : List Record) (old new : Pages) : Type 0 where
  pub between : Pages
  pub sets : SetsTag tag (Some at) places old between
  pub stands : StandsAt new at (record { head = new_head fileset tag; records = records })
  pub others : LeavesOthers (is_at at) between new
  pub elsewhere : (home : Home) → same_home home (home_of at) ≡ false → new home ≡ between home
  pub well_formed : KeepsWellFormed between new
  pub headers : KeepsHeaders between new
