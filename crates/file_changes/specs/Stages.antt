-- Changes of one file that are laid over a domain's memory.
use Rattle.std.specs.Prelude.{◌≡◌, ◌⊎◌, ◌<◌, ◌++◌, ℕ, false, List, [], ◌∷◌, Option, None, IsSomeAnd, Some}
use Rattle.std.specs.FinMap.{get, insert}
use Rattle.std.specs.Option.{option_and_then}
use Rattle.domain_memory.specs.domain_base.declared.place.CellAt.{CellAt}
use Rattle.domain_memory.specs.domain_base.declared.place.Home.{Home}
use Rattle.domain_memory.specs.domain_base.declared.place.Kind.TheVariants.{File}
use Rattle.domain_memory.specs.domain_base.declared.place.Tag.{Tag}
use Rattle.domain_memory.specs.page_store.declared.fault.StoreFault.{StoreFault}
use Rattle.domain_memory.specs.page_store.declared.fault.StoreFault.TheVariants.{NoPage, OutOfMemory}
use Rattle.domain_memory.specs.extent_maps.declared.run.PagePlace.TheVariants.{At}
use Rattle.domain_memory.specs.free_cells.Cells.{can_take}
use Rattle.domain_memory.specs.free_space.Spaces.{CanTake, change_volume}
use Rattle.domain_memory.specs.free_space.VolumeSpace.{with_page}
use Rattle.domain_memory.specs.file_chains.MapChanges.{NoneTakes}
use Rattle.domain_memory.specs.fileset_files.Files.{AreFiles, Chains, keep_of, of_live, place_at}
use Rattle.domain_memory.specs.fileset_files.Pages.{MayGrow}
use Rattle.domain_memory.specs.fileset_model.Apply.{with_change}
use Rattle.domain_memory.specs.fileset_model.Filesets.{FilesetMap}
use Rattle.domain_memory.specs.fileset_values.Orders.{Path}
use Rattle.domain_memory.specs.fileset_model.declared.fileset.FilesetSlot.{FilesetSlot}
use Rattle.domain_memory.specs.fileset_model.declared.node.Node.{Node}
use Rattle.domain_memory.specs.fileset_table.declared.slot.FilesetEntry.{FilesetEntry}
use Rattle.domain_memory.specs.fileset_table.declared.slot.SlotItem.TheVariants as slot
use Rattle.domain_memory.specs.name_space.Names.{number_of}
use Rattle.domain_memory.specs.staged_pages.Store.{pages_of}
use Rattle.domain_memory.specs.domain_standing.Domain.{item_in}
use Rattle.domain_memory.specs.standing_laws.Leads.{IsLiveOf}
use Rattle.domain_memory.specs.Slots.{places_in, slot_in}
use Rattle.domain_memory.specs.Staged.{IsStaged, staged_in}
use Rattle.domain_memory.specs.declared.memory.DomainMemory.{DomainMemory}

-- ** Before

-- the files of a slot
abbrev pub AreFilesIn : DomainMemory → ℕ → Chains → Type 0
AreFilesIn memory number chains =
    AreFiles number (places_in (slot_in memory.slots.items number)) (pages_of memory.pages) chains

-- a tag names one of them that is a file, and stays
abbrev pub IsFileIn : DomainMemory → ℕ → Tag → Type 0
IsFileIn memory number tag =
    (chains : Chains) → AreFilesIn memory number chains → IsLiveOf File (chains tag)

-- it keeps the page, and does not have it
abbrev pub LacksPage : DomainMemory → ℕ → Tag → ℕ → Type 0
LacksPage memory number tag page =
    (chains : Chains) → AreFilesIn memory number chains → MayGrow tag page chains

-- it keeps it, and has it
pub record IsPageOf (tag : Tag) (page : ℕ) (chains : Chains) : Type 0 where
  pub kept : IsSomeAnd (option_and_then (of_live keep_of) (chains tag)) (λ keep. page < keep)
  pub home : Home
  pub there : place_at chains tag page ≡ At home

-- the file of a tag keeps a page and has it
abbrev pub HasPage : DomainMemory → ℕ → Tag → ℕ → Type 0
HasPage memory number tag page =
    (chains : Chains) → AreFilesIn memory number chains → IsPageOf tag page chains

-- memory stands for these filesets, with the change that is laid over it, an original in a slot for
-- this one, and there a path leads to what a tag names
pub record HasFile (memory : DomainMemory) (number : ℕ) (tag : Tag) (path : Path)
    (all : FilesetMap) (entry : FilesetEntry) (fileset : FilesetSlot) : Type 0 where
  pub staged : IsStaged memory all
  pub original : item_in (staged_in memory) number ≡ Some (slot.Original entry)
  pub there : get all entry.name ≡ Some fileset
  pub at : get fileset.tree.paths path ≡ Some (number_of tag)

-- ** After

-- memory stands for these filesets with `change` made to the node at the path
abbrev pub StandsChanged : Path → (Node → Node) → FilesetMap → FilesetEntry → FilesetSlot
    → DomainMemory → Type 0
StandsChanged path change all entry fileset now = IsStaged now
    (insert all entry.name (record fileset { tree = with_change path change fileset.tree }))

-- a page is free, but no record of the tag's file can take it, so that a cell is needed too; and no
-- cell is free, nor another page
pub record LacksCell (memory : DomainMemory) (number : ℕ) (tag : Tag) (page : ℕ) : Type 0 where
  pub home : Home
  pub free : CanTake memory.space home.vol home.page
  pub none_takes : (chains : Chains) → AreFilesIn memory number chains
      → IsSomeAnd (chains tag) (NoneTakes page (At home))
  pub no_cell : (at : CellAt) → can_take memory.cells at ≡ false
  pub no_other : (vol p : ℕ)
      → ¬ CanTake (change_volume (with_page home.page) memory.space home.vol) vol p

-- no page is given: none is free, or only one is and a cell is needed too; or memory was short
abbrev pub GivesNone : DomainMemory → ℕ → Tag → ℕ → StoreFault → Type 0
GivesNone memory number tag page NoPage =
    ((vol p : ℕ) → ¬ CanTake memory.space vol p) ⊎ LacksCell memory number tag page
GivesNone memory number tag page OutOfMemory = Unit {0}

-- what is left to be done is listed after the rest
abbrev pub ListsLeft : Option CellAt → List CellAt → List CellAt → Type 0
ListsLeft None listed listed_now = listed_now ≡ listed
ListsLeft (Some at) listed listed_now = listed_now ≡ listed ++ at ∷ []
