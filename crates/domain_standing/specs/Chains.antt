-- The chains of cells of a domain: each is of a file that a tag names, of one that is to be let go
-- of, or of the quota cells of a slot; and each cell in use is one of theirs.
use Rattle.std.specs.Prelude.{◌≡◌, ◌⊎◌, ◌∷◌, ℕ, List, [], Option, Some, None, IsSome, IsSomeAnd, Contains}
use Rattle.std.specs.Option.{option_and_then}
use Rattle.fileset_shapes.specs.domain_base.declared.place.CellAt.{CellAt}
use Rattle.fileset_shapes.specs.domain_base.declared.place.Home.{Home}
use Rattle.fileset_shapes.specs.domain_base.declared.place.Tag.{Tag}
use Rattle.fileset_shapes.specs.cell_records.declared.record.Leftover.TheVariants.{Remove}
use Rattle.fileset_shapes.specs.metadata_cells.Cell.{Cell}
use Rattle.fileset_shapes.specs.metadata_cells.Chain.{PlacedCell, places, records_of}
use Rattle.fileset_shapes.specs.tag_dirs.Directory.{cell_of}
use Rattle.fileset_shapes.specs.fileset_files.Files.{AreFiles, Chains}
use Rattle.fileset_shapes.specs.fileset_files.Shown.{index_of}
use Rattle.stored_set.specs.index_pages.Homes.{AreIndexHomes}
use Rattle.fileset_shapes.specs.fileset_table.declared.slot.SlotItem.{SlotItem}
use Rattle.fileset_shapes.specs.fileset_table.declared.slot.SlotItem.TheVariants as slot
use Rattle.fileset_shapes.specs.quota_book.QuotaCells.{AreOnce, said_by}
use Rattle.release_steps.specs.release_list.Listed.{left_of}
use Rattle.release_steps.specs.release_list.Standing.{Files, IsQuotas}
use Rattle.release_steps.specs.release_list.Steps.{IsWell}
use Rattle.release_steps.specs.release_list.declared.list.Entry.{Entry}
use Rattle.release_steps.specs.Links.{homes_of}
use Rattle.release_steps.specs.Tags.{AreAmong}
use Rattle.fileset_shapes.specs.domain_layout.CellRules.{IsFirstPlace}
use Rattle.fileset_shapes.specs.domain_layout.Layout.{first_tag_of}
use Rattle.fileset_shapes.specs.domain_layout.Owners.{IsOnTable}
use Rattle.fileset_shapes.specs.domain_layout.TagRules.{quota_of}
use Rattle.domain_standing.specs.Domain.{DomainNow, all_of, item_in, layout_of, named_by}

-- where the pages of the index stand that the file names which begins at a cell
abbrev pub IndexesAt : Type 0
IndexesAt = CellAt → List Home

-- no file, and no index
abbrev pub no_files : Files
no_files = λ at. None

abbrev pub no_indexes : IndexesAt
no_indexes = λ at. []

-- ** Files of slots

-- what is in a slot is being removed
abbrev pub IsRemoved : Option SlotItem → Type 0
IsRemoved (Some (slot.Removed first_tag quota)) = Unit {0}
IsRemoved _ = ⊥

-- the files that the tags of a slot name are among the domain's
pub record HasFilesAmong (d : DomainNow) (files : Files) (number : ℕ) : Type 0 where
  pub chains : Chains
  pub are : AreFiles number (d.tags number) d.pages chains
  pub among : AreAmong (all_of d files) (d.tags number) chains

-- no tag of what is being removed leads to a cell any more, and the pages of its directory are on
-- the list in their order
pub record HasEmptyTags (d : DomainNow) (number : ℕ) : Type 0 where
  pub removed : IsRemoved (item_in d number)
  pub none : (tag : Tag) → cell_of d.pages (d.tags number) tag ≡ None
  pub listed : homes_of (d.tags number) ≡ d.list.tag_pages

-- the tag directory of a slot, which begins there if the slot has one
abbrev pub StandsInSlot : DomainNow → Files → ℕ → Option Home → Type 0
StandsInSlot d files number None = d.tags number ≡ []
StandsInSlot d files number (Some first) =
    HasFilesAmong d files number ⊎ HasEmptyTags d number

-- ** Quota cells

-- a slot names the chain of quota cells that begins there
abbrev pub IsQuotaOf : DomainNow → ℕ → CellAt → Type 0
IsQuotaOf d number at = named_by quota_of d number ≡ Some at

-- the first cell of a chain says this fileset
abbrev pub IsOfFileset : ℕ → List PlacedCell → Type 0
IsOfFileset number [] = ⊥
IsOfFileset number (first ∷ rest) = first.cell.head.fileset ≡ Some number

-- a chain of quota cells, the first of them of the fileset in a slot, in which nothing is said of an
-- owner twice
pub record AreQuotasOf (d : DomainNow) (number : ℕ) (at : CellAt) (chain : List PlacedCell) : Type 0
  where
    pub quotas : IsQuotas d.pages at chain
    pub of : IsOfFileset number chain
    pub once : AreOnce (said_by (records_of chain))

-- ** All chains

-- a tag of a slot leads there
abbrev pub IsTagged : DomainNow → CellAt → Type 0
IsTagged d at = (number : ℕ) × (tag : Tag) × (cell_of d.pages (d.tags number) tag ≡ Some at)

-- a chain that begins there is of a file that a tag names, of one that is to be removed, or of the
-- quota cells of a slot
abbrev pub IsSomebodys : DomainNow → CellAt → List PlacedCell → Type 0
IsSomebodys d at chain = IsTagged d at ⊎ (left_of chain ≡ Some Remove)
    ⊎ ((number : ℕ) × IsQuotaOf d number at)

-- a cell of one of the chains
abbrev pub IsInChain : Files → CellAt → Type 0
IsInChain files at =
    (start : CellAt) × IsSomeAnd (files start) (λ chain. Contains (places chain) at)

-- what a first cell says to be left to do
abbrev pub IsToDo : Files → CellAt → Type 0
IsToDo files at = IsSome (option_and_then left_of (files at))

-- it begins the quota cells of what is being removed
abbrev pub IsQuotaToGo : DomainNow → CellAt → Type 0
IsQuotaToGo d at = (number : ℕ) × IsRemoved (item_in d number) × IsQuotaOf d number at

-- an entry of the list has what begins there
abbrev pub IsOnList : DomainNow → CellAt → Type 0
IsOnList d at = (entry : Entry) × Contains d.list.entries entry × (entry.at ≡ at)

-- the chains of a domain, and the pages of indexes that they name. What first cells say to be left
-- to do is on the list, and nothing else but quota cells and tag pages of what is being removed
pub record StandChains (d : DomainNow) (files : Files) (indexes : IndexesAt) : Type 0 where
  pub well : IsWell (all_of d files)
  pub slots : (number : ℕ) → StandsInSlot d files number (named_by first_tag_of d number)
  pub quotas : (number : ℕ) (at : CellAt) → IsQuotaOf d number at
      → IsSomeAnd (files at) (AreQuotasOf d number at)
  pub indexed : (at : CellAt)
      → AreIndexHomes d.pages (option_and_then index_of (files at)) (indexes at)
  pub used : (at : CellAt) (cell : Cell) → IsOnTable d.pages (layout_of d) at cell
      → IsFirstPlace d.frame at ⊎ IsInChain files at
  pub named : (at : CellAt) (chain : List PlacedCell) → files at ≡ Some chain
      → IsSomebodys d at chain
  pub to_do : (at : CellAt) → IsToDo files at → IsOnList d at
  pub listed : (at : CellAt) → IsOnList d at → IsToDo files at ⊎ IsQuotaToGo d at
  pub tag_pages : (home : Home) → Contains d.list.tag_pages home
      → (number : ℕ) × HasEmptyTags d number
