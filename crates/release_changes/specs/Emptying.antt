-- What is being removed from slots of a domain's memory: tags of it that are taken out of use, and
-- slots that come free.
use Rattle.std.specs.Prelude.{◌≡◌, ◌≤◌, ◌⊎◌, ◌||◌, ℕ, true, false, List, [], Option, None, Some, Contains, IsSomeAnd, slice_get}
use Rattle.std.specs.Option.{option_and_then, option_map_or}
use Rattle.domain_changes.specs.domain_base.declared.place.CellAt.{CellAt}
use Rattle.domain_changes.specs.domain_base.declared.place.Home.{Home}
use Rattle.domain_changes.specs.domain_base.declared.place.Tag.{Tag}
use Rattle.domain_changes.specs.page_store.Pages.{Pages}
use Rattle.domain_changes.specs.metadata_cells.Chain.{PlacedCell, is_at, places}
use Rattle.domain_changes.specs.tag_dirs.declared.dir.TagPlace.{TagPlace}
use Rattle.domain_changes.specs.tag_dirs.Directory.{cell_of, has_home}
use Rattle.domain_changes.specs.free_cells.Cells.{Cells, is_free}
use Rattle.domain_changes.specs.free_space.Spaces.{Spaces, kept_spaces}
use Rattle.domain_changes.specs.fileset_files.Changes.{ChangesBeside, IsLive, KeepsSequences, Removes, is_page_of_first, without_chain}
use Rattle.domain_changes.specs.fileset_files.Files.{AreFiles, Chains, HasFiles}
use Rattle.domain_changes.specs.fileset_files.Shown.{index_of}
use Rattle.domain_changes.specs.fileset_files.Together.{AreTogether}
use Rattle.domain_changes.specs.index_pages.Changes.{AreHeld, DropsIndex, with_waiting_at}
use Rattle.domain_changes.specs.index_pages.Homes.{AreIndexHomes}
use Rattle.domain_changes.specs.staged_pages.Store.{before_of}
use Rattle.domain_changes.specs.fileset_table.Page.{IsTablePage}
use Rattle.domain_changes.specs.fileset_table.Table.{with_slot}
use Rattle.domain_changes.specs.fileset_table.declared.slot.SlotItem.TheVariants as slot
use Rattle.domain_changes.specs.release_list.Standing.{Files}
use Rattle.domain_changes.specs.release_steps.Links.{homes_of}
use Rattle.domain_changes.specs.domain_standing.Chains.{IsRemoved}
use Rattle.domain_changes.specs.domain_standing.Domain.{DomainNow, item_in}
use Rattle.domain_changes.specs.stored_set.Sets.{without_index}
use Rattle.domain_changes.specs.domain_memory.declared.slots.SlotFiles.{SlotFiles}
use Rattle.domain_changes.specs.domain_memory.Staged.{MayBeKept}
use Rattle.domain_changes.specs.domain_memory.declared.memory.DomainMemory.{DomainMemory}
use Rattle.domain_changes.specs.domain_memory.Going.{HasNoQuota, HasQuotaCells, IsUsedIn}
use Rattle.release_changes.specs.QuotaCells.{BeginsQuotas}
use Rattle.domain_changes.specs.fileset_model.Filesets.{FilesetMap}

-- the pages of the index that the first cell of a chain names, if it names one: each is used and
-- does not wait, and is neither that of the first cell nor one of the tag directory
pub record HasIndexApart (places : List TagPlace) (space : Spaces) (pages : Pages)
    (chain : Option (List PlacedCell)) : Type 0 where
  pub homes : List Home
  pub are : AreIndexHomes pages (option_and_then index_of chain) homes
  pub held : AreHeld space homes
  pub no_tags : (home : Home) → Contains homes home → has_home places home ≡ false
  pub no_first : (home : Home) → Contains homes home
      → option_map_or (is_page_of_first home) chain false ≡ false

-- a tag is out of use, and the first cell of what it named says that all of it goes, and names no
-- index; the pages of that are given up then, and wait for the group
pub record TakesOut (group fileset : ℕ) (places : List TagPlace) (tag : Tag) (at : CellAt)
    (space space_now : Spaces) (old new : Pages) : Type 0 where
  pub said : Pages
  pub removes : (chains : Chains) → AreFiles fileset places old chains
      → Removes fileset places tag at (without_index tag chains) said
  pub together : (space : Spaces) (cells : Cells) (chains : Chains)
      → AreTogether fileset places space cells old chains
      → AreTogether fileset places space cells said (without_chain tag chains)
  pub beside : (chains : Chains) → AreFiles fileset places old chains
      → ChangesBeside places (chains tag) old said
  pub sequences : KeepsSequences places old said
  pub drops : (chains : Chains) (homes : List Home) → AreFiles fileset places old chains
      → AreIndexHomes old (option_and_then index_of (chains tag)) homes
      → DropsIndex group space space_now said new homes

-- what is asked of the files of a slot if a tag of theirs is taken out of use: it names one that is
-- not to be removed yet, and the pages of its index are known
pub record MayTakeOut (tag : Tag) (space : Spaces) (pages : Pages) (slot : SlotFiles) : Type 0 where
  pub files : HasFiles slot.files.fileset slot.files.tags pages
  pub live : (chains : Chains) → AreFiles slot.files.fileset slot.files.tags pages chains
      → IsLive tag chains
  pub index : (chains : Chains) → AreFiles slot.files.fileset slot.files.tags pages chains
      → HasIndexApart slot.files.tags space pages (chains tag)

-- of these files it is
abbrev pub TakesOfFiles : ℕ → Tag → CellAt → Spaces → Spaces → Pages → Pages → SlotFiles
    → Type 0
TakesOfFiles group tag at space space_now old new slot = TakesOut group slot.files.fileset
    slot.files.tags tag at space space_now old new

-- a change may be kept, with some filesets
abbrev pub MayBeKeptForAny : DomainMemory → Type 0
MayBeKeptForAny memory = (all : FilesetMap) × MayBeKept memory all

-- of memory pages and free space change alone, and what the change has listed; what was kept of
-- them and of the list stays
pub record TakesTag (old new : DomainMemory) : Type 0 where
  pub slots : new.slots.items ≡ old.slots.items
  pub before : before_of new.pages ≡ before_of old.pages
  pub kept : kept_spaces new.space ≡ kept_spaces old.space
  pub list : new.list.list ≡ old.list.list
  pub same : new ≡ record old {
    pages = new.pages;
    space = new.space;
    slots = new.slots;
    list = new.list;
    listed = new.listed;
  }

-- ** The end of a removal

-- what is being removed from a slot has no file any more, and no quota cell: what is left of it are
-- the pages of its tag directory, which stand on volumes that there may be; and no page of a tag
-- directory is on the list
pub record IsLeftOver (number : ℕ) (d : DomainNow) : Type 0 where
  pub first_tag : Option Home
  pub was : item_in d number ≡ Some (slot.Removed first_tag None)
  pub unused : (tag : Tag) → cell_of d.pages (d.tags number) tag ≡ None
  pub low : (home : Home) → has_home (d.tags number) home ≡ true → 1 ≤ home.vol
  pub none_listed : d.list.tag_pages ≡ []

-- the slot is free then: the pages wait, the table's page says it, and no other page changes
pub record FreesSlot (group number : ℕ) (d now : DomainNow) : Type 0 where
  pub left : IsLeftOver number d
  pub table : now.table ≡ with_slot number slot.Free d.table
  pub tags : now.tags number ≡ []
  pub other_tags : (n : ℕ) → ¬ n ≡ number → now.tags n ≡ d.tags n
  pub waits : now.space ≡ with_waiting_at (homes_of (d.tags number)) group d.space
  pub says : (home : Home) → d.frame.anchor.table ≡ Some home
      → IsSomeAnd (now.pages home) (λ page. IsTablePage page now.table)
  pub others : (home : Home) → ¬ d.frame.anchor.table ≡ Some home
      → has_home (d.tags number) home ≡ false → now.pages home ≡ d.pages home
  pub frame : now.frame ≡ d.frame
  pub cells : now.cells ≡ d.cells
  pub list : now.list ≡ d.list

-- of what is being removed from a slot a tag is used; or it has no quota cell, and no page of a tag
-- directory is on the list
pub record IsUsedOrBare (memory : DomainMemory) (number : ℕ) : Type 0 where
  pub removed : IsRemoved (slice_get memory.table.slots number)
  pub some : ((tag : Tag) × IsUsedIn memory number tag) ⊎ HasNoQuota memory number

-- ** What is less of a removal

-- of the tags of a slot fewer are used: one is no more, and each that is was
pub record UsesFewer (number : ℕ) (old new : DomainMemory) : Type 0 where
  pub tag : Tag
  pub was : IsUsedIn old number tag
  pub gone : ¬ IsUsedIn new number tag
  pub others : (t : Tag) → IsUsedIn new number t → IsUsedIn old number t

-- one of these cells is free, and so are those that were
abbrev pub FreesOneOf : List PlacedCell → Cells → Cells → Type 0
FreesOneOf chain old new = (gone : CellAt) × Contains (places chain) gone
    × ((at : CellAt) → is_free new at ≡ (is_at gone at || is_free old at))

-- one is of the quota cells that a slot names, which are not on the list
abbrev pub FreesQuotaCell : ℕ → DomainMemory → DomainMemory → Type 0
FreesQuotaCell number old new = (at : CellAt) × HasQuotaCells old number at × ((files : Files)
    → BeginsQuotas old at files
    → IsSomeAnd (files at) (λ chain. FreesOneOf chain old.cells new.cells))

-- the slot has become free
abbrev pub IsFreeSlot : ℕ → DomainMemory → Type 0
IsFreeSlot number memory = slice_get memory.table.slots number ≡ Some slot.Free

-- of what is being removed from a slot less is left: fewer of its tags are used, or a quota cell of
-- it is free, or the slot is
abbrev pub Empties : ℕ → DomainMemory → DomainMemory → Type 0
Empties number old new =
    UsesFewer number old new ⊎ FreesQuotaCell number old new ⊎ IsFreeSlot number new
