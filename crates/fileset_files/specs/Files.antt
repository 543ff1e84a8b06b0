-- The files and directories of a fileset: what each tag names.
use Rattle.std.specs.Prelude.{◌≡◌, ◌==◌, ℕ, Bool, true, false, List, [], ◌∷◌, Contains, Option, Some, None, IfSome, IsSomeAnd, if◌then◌else◌}
use Rattle.std.specs.List.{AllByRecursion, list_any}
use Rattle.std.specs.Option.{option_and_then, option_map_or}
use Rattle.file_chains.specs.domain_base.declared.place.CellAt.{CellAt}
use Rattle.file_chains.specs.domain_base.declared.place.Kind.TheVariants.{Directory, File}
use Rattle.file_chains.specs.domain_base.declared.place.Tag.{Tag}
use Rattle.file_chains.specs.page_store.Pages.{Pages}
use Rattle.file_chains.specs.page_store.Bitfiles.{same_tag}
use Rattle.file_chains.specs.cell_records.declared.record.Record.{Record}
use Rattle.file_chains.specs.cell_records.declared.record.Record.TheVariants as written
use Rattle.file_chains.specs.cell_records.Records.{kind_of}
use Rattle.file_chains.specs.cell_records.declared.record.Leftover.TheVariants.{Remove, Trim}
use Rattle.file_chains.specs.metadata_cells.Cell.{record_of}
use Rattle.file_chains.specs.metadata_cells.Chain.{PlacedCell, places}
use Rattle.tag_dirs.specs.declared.dir.TagPlace.{TagPlace}
use Rattle.tag_dirs.specs.Directory.{IsDirectory, cell_of}
use Rattle.file_chains.specs.extent_maps.declared.run.PagePlace.{PagePlace}
use Rattle.file_chains.specs.extent_maps.declared.run.PagePlace.TheVariants.{Absent}
use Rattle.file_chains.specs.Files.{IsFile, places_of}
use Rattle.fileset_files.specs.declared.attributes.Attributes.{Attributes}

-- the first record of a kind in the first cell of a chain
abbrev pub first_record : ℕ → List PlacedCell → Option Record
first_record kind [] = None
first_record kind (first ∷ rest) = record_of kind first.cell.records

-- what a record of attributes says of its file
abbrev pub attributes_in : Record → Option Attributes
attributes_in (written.Attributes kind uid gid flags size keep links birth unsynced) =
    Some (record {
      kind = if kind == 2 then Directory else File;
      uid = uid;
      gid = gid;
      is_logged = flags == 1;
      size = size;
      links = links;
    })
attributes_in _ = None

-- how many of its first pages it keeps
abbrev pub keep_in : Record → Option ℕ
keep_in (written.Attributes kind uid gid flags size keep links birth unsynced) = Some keep
keep_in _ = None

-- a record of work that is left says that all of the file goes
abbrev pub says_remove : Record → Bool
says_remove (written.Pending Remove) = true
says_remove (written.Pending Trim) = false
says_remove _ = false

-- the chain is that of a file that is to be removed
abbrev pub is_removed : List PlacedCell → Bool
is_removed cells = option_map_or says_remove (first_record 6 cells) false

-- what a live file has, and nothing where it is to be removed
abbrev pub of_live : {X : Type 0} → (List PlacedCell → Option X) → List PlacedCell → Option X
of_live what cells = if is_removed cells then None else what cells

-- what the first cell says of the file: its kind, owner, flag, size and links
abbrev pub attributes_of : List PlacedCell → Option Attributes
attributes_of cells = option_and_then attributes_in (first_record 1 cells)

-- how many of its first pages the file keeps
abbrev pub keep_of : List PlacedCell → Option ℕ
keep_of cells = option_and_then keep_in (first_record 1 cells)

-- the chain of each tag that is used
abbrev pub Chains : Type 0
Chains = Tag → Option (List PlacedCell)

-- a cell names the fileset and the tag that it is of
abbrev pub IsOf : ℕ → Tag → List PlacedCell → Type 0
IsOf fileset tag [] = ⊥
IsOf fileset tag (first ∷ rest) =
    (first.cell.head.slot ≡ tag.slot) × (first.cell.head.seq ≡ tag.seq)
    × (first.cell.head.fileset ≡ Some fileset)

-- the kinds of records that the first cell of a file or directory may have
abbrev pub first_kinds : List ℕ
first_kinds = 1 ∷ 2 ∷ 4 ∷ 6 ∷ 9 ∷ 10 ∷ 11 ∷ 14 ∷ []

abbrev pub is_first_kind : ℕ → Bool
is_first_kind kind = list_any (λ k. kind == k) first_kinds

-- the first cell has records of the kinds of a first cell alone
abbrev pub HasFirstKinds : List PlacedCell → Type 0
HasFirstKinds [] = ⊥
HasFirstKinds (first ∷ rest) =
    AllByRecursion (λ r. is_first_kind (kind_of r) ≡ true) first.cell.records

-- no cell is in both chains
abbrev pub AreApart : List PlacedCell → List PlacedCell → Type 0
AreApart xs ys = (at : CellAt) → Contains (places xs) at → ¬ Contains (places ys) at

-- a tag leads to the first cell of its chain
pub record LeadsToFile (fileset : ℕ) (places : List TagPlace) (pages : Pages) (tag : Tag)
    (cells : List PlacedCell) : Type 0 where
  pub leads : IsSomeAnd (cell_of pages places tag) (λ at. IsFile pages at cells)
  pub is_of : IsOf fileset tag cells
  pub kinds : HasFirstKinds cells

-- the files of a fileset: each tag that is used leads to a file's chain, which names it, and no two
-- of them share a cell
pub record AreFiles (fileset : ℕ) (places : List TagPlace) (pages : Pages) (chains : Chains)
    : Type 0 where
  pub directory : IsDirectory pages places
  pub none : (tag : Tag) → chains tag ≡ None → cell_of pages places tag ≡ None
  pub some : (tag : Tag) → IfSome (chains tag) (LeadsToFile fileset places pages tag)
  pub apart : (s t : Tag) → same_tag s t ≡ false
      → IfSome (chains s) (λ xs. IfSome (chains t) (AreApart xs))

-- there are chains for which this holds of the pages
abbrev pub HasFiles : ℕ → List TagPlace → Pages → Type 0
HasFiles fileset places pages = (chains : Chains) × AreFiles fileset places pages chains

-- where a tag's file has a page: nowhere if the tag names none
abbrev pub place_at : Chains → Tag → ℕ → PagePlace
place_at chains tag page = option_map_or (λ cells. places_of cells page) (chains tag) Absent

-- the first cell of a tag's file, and none where the tag names none or the file is to be removed
abbrev pub IsFirstUnless : Bool → Pages → List PlacedCell → Option CellAt → Type 0
IsFirstUnless true pages cells found = found ≡ None
IsFirstUnless false pages cells found = IsSomeAnd found (λ at. IsFile pages at cells)

-- this is the first cell of a file that is not to be removed; there is none if the tag names
-- nothing, or such a file
abbrev pub IsLiveCell : Pages → Option (List PlacedCell) → Option CellAt → Type 0
IsLiveCell pages None found = found ≡ None
IsLiveCell pages (Some cells) found = IsFirstUnless (is_removed cells) pages cells found
