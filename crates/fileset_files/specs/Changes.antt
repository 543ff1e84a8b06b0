-- What a change of one tag's file changes.
use Rattle.std.specs.Prelude.{◌≡◌, ◌≤◌, ℕ, Bool, true, false, List, [], ◌∷◌, Option, Some, None, IfSome, IsSome, IsSomeAnd, if◌then◌else◌}
use Rattle.std.specs.List.{AllByRecursion}
use Rattle.std.specs.Option.{option_and_then, option_map}
use Rattle.file_chains.specs.cell_records.Records.{kind_of}
use Rattle.file_chains.specs.domain_base.declared.place.Kind.{Kind}
use Rattle.file_chains.specs.domain_base.declared.place.Kind.TheVariants.{Directory, File}
use Rattle.file_chains.specs.domain_base.declared.place.CellAt.{CellAt}
use Rattle.file_chains.specs.domain_base.declared.place.Home.{Home}
use Rattle.file_chains.specs.domain_base.declared.place.Tag.{Tag}
use Rattle.file_chains.specs.domain_base.Limits.{max_links}
use Rattle.file_chains.specs.page_store.Bitfiles.{same_tag}
use Rattle.file_chains.specs.page_store.Pages.{Pages, same_home}
use Rattle.file_chains.specs.cell_records.declared.record.Record.{Record}
use Rattle.file_chains.specs.cell_records.declared.record.Record.TheVariants as written
use Rattle.file_chains.specs.metadata_cells.Cell.{Cell, record_of}
use Rattle.file_chains.specs.cell_records.declared.record.Leftover.TheVariants.{Remove}
use Rattle.file_chains.specs.metadata_cells.CellPage.{cell_at, home_of}
use Rattle.file_chains.specs.metadata_cells.Chain.{LeavesOthers, PlacedCell, StandsAt, is_at}
use Rattle.tag_dirs.specs.declared.dir.TagPlace.{TagPlace}
use Rattle.tag_dirs.specs.Directory.{is_page_of_slot, sequence_of}
use Rattle.file_chains.specs.Changes.{with_record}
use Rattle.file_chains.specs.Files.{IsFile}
use Rattle.fileset_files.specs.declared.attributes.Attributes.{Attributes}
use Rattle.fileset_files.specs.Files.{AreFiles, Chains, attributes_of, is_first_kind, of_live}

-- the number of a kind in a record of attributes
abbrev pub kind_number : Kind → ℕ
kind_number File = 1
kind_number Directory = 2

-- a record of attributes that says these, and keeps, was born and went out of step as before
abbrev pub with_attributes : Attributes → Record → Record
with_attributes value (written.Attributes kind uid gid flags size keep links birth unsynced) =
    written.Attributes (kind_number value.kind) value.uid value.gid
    (if value.is_logged then 1 else 0) value.size keep value.links birth unsynced
with_attributes value r = r

-- a first cell whose record of attributes says these
abbrev pub says_attributes : Attributes → Cell → Cell
says_attributes value cell =
    with_record 1 (option_map (with_attributes value) (record_of 1 cell.records)) cell

-- a chain with another first cell
abbrev pub with_first : (Cell → Cell) → List PlacedCell → List PlacedCell
with_first change [] = []
with_first change (first ∷ rest) = record { at = first.at; cell = change first.cell } ∷ rest

-- a change of the first cell of a chain alone
abbrev pub ChangesFirst : Option (List PlacedCell) → Pages → Pages → Type 0
ChangesFirst (Some (first ∷ rest)) old new = LeavesOthers (is_at first.at) old new
    × ((home : Home) → same_home home (home_of first.at) ≡ false → new home ≡ old home)
ChangesFirst _ old new = new ≡ old

-- the files with this change to the tag's file
abbrev pub with_chain : Tag → (List PlacedCell → List PlacedCell) → Chains → Chains
with_chain tag change chains = λ t. if same_tag t tag then option_map change (chains t) else chains t

-- a live tag names a file or directory of the kind that the attributes say, with 1 to 1,000 links
pub record CanSay (value : Attributes) (tag : Tag) (chains : Chains) : Type 0 where
  pub kind : IsSomeAnd (option_and_then (of_live attributes_of) (chains tag))
      (λ was. was.kind ≡ value.kind)
  pub named : 1 ≤ value.links
  pub most : value.links ≤ max_links

-- the files without the tag's
abbrev pub without_chain : Tag → Chains → Chains
without_chain tag chains = λ t. if same_tag t tag then None else chains t

-- a first cell that says in which directory the one that it is of stands
abbrev pub says_parent : Tag → Cell → Cell
says_parent parent cell = with_record 10 (Some (written.Parent parent.slot parent.seq)) cell

-- a first cell that says that the file is to be removed
abbrev pub says_removed : Cell → Cell
says_removed cell = with_record 6 (Some (written.Pending Remove)) cell

-- a first cell of a file stands there
pub record HasFirstRoom (pages : Pages) (at : CellAt) : Type 0 where
  pub cell : Cell
  pub stands : StandsAt pages at cell
  pub kinds : AllByRecursion (λ r. is_first_kind (kind_of r) ≡ true) cell.records

-- a tag names a file or directory that is not to be removed
abbrev pub IsLive : Tag → Chains → Type 0
IsLive tag chains = IsSome (option_and_then (of_live attributes_of) (chains tag))

-- the tag names nothing, and its chain begins at that cell and says that the file is to be removed
pub record Removes (fileset : ℕ) (places : List TagPlace) (tag : Tag) (at : CellAt) (chains : Chains)
    (new : Pages) : Type 0 where
  pub files : AreFiles fileset places new (without_chain tag chains)
  pub pending : IsSomeAnd (chains tag) (λ cells. IsFile new at (with_first says_removed cells))

-- each slot's last sequence stays
abbrev pub KeepsSequences : List TagPlace → Pages → Pages → Type 0
KeepsSequences places old new =
    (slot : ℕ) → sequence_of new places slot ≡ sequence_of old places slot

-- the place of a chain's first cell, and its page
abbrev pub is_first : CellAt → List PlacedCell → Bool
is_first at [] = false
is_first at (first ∷ rest) = is_at first.at at

abbrev pub is_page_of_first : Home → List PlacedCell → Bool
is_page_of_first home [] = false
is_page_of_first home (first ∷ rest) = same_home home (home_of first.at)

-- the page of a tag directory that has the slot of a chain's tag, which its first cell names
abbrev pub is_page_of_tag : List TagPlace → Home → List PlacedCell → Bool
is_page_of_tag places home [] = false
is_page_of_tag places home (first ∷ rest) = is_page_of_slot places first.cell.head.slot home

-- the first cell of a chain and the page of a tag directory that has its tag's slot may have
-- changed, and nothing else
pub record ChangesBeside (places : List TagPlace) (chain : Option (List PlacedCell)) (old new : Pages)
    : Type 0 where
  pub cells : IfSome chain (λ cells. (at : CellAt) → is_first at cells ≡ false
      → cell_at new at ≡ cell_at old at)
  pub pages : IfSome chain (λ cells. (home : Home) → is_page_of_tag places home cells ≡ false
      → is_page_of_first home cells ≡ false → new home ≡ old home)
