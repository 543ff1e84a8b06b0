-- The pages, chains and indexes of one slot of a domain, which a change elsewhere leaves as they
-- were.
use Rattle.std.specs.Prelude.{◌≡◌, ◌⊎◌, ◌≤◌, ℕ, true, IfSome, Some, slice_get}
use Rattle.domain_standing.specs.domain_base.declared.place.CellAt.{CellAt}
use Rattle.domain_standing.specs.domain_base.declared.place.Home.{Home}
use Rattle.domain_standing.specs.domain_base.declared.place.Tag.{Tag}
use Rattle.domain_standing.specs.tag_dirs.Directory.{cell_of, has_home}
use Rattle.domain_standing.specs.extent_maps.declared.run.PagePlace.TheVariants.{At}
use Rattle.domain_standing.specs.free_space.Spaces.{IsHeld}
use Rattle.domain_standing.specs.fileset_model.declared.fileset.FilesetSlot.{FilesetSlot}
use Rattle.domain_standing.specs.fileset_table.Table.{entry_of}
use Rattle.domain_standing.specs.fileset_table.declared.slot.FilesetEntry.{FilesetEntry}
use Rattle.domain_standing.specs.fileset_table.declared.slot.SlotItem.{SlotItem}
use Rattle.domain_standing.specs.fileset_table.declared.slot.SlotItem.TheVariants as slot
use Rattle.domain_standing.specs.release_list.Standing.{Files, place_in}
use Rattle.domain_standing.specs.domain_layout.Shape.{FilesetShape}
use Rattle.domain_standing.specs.Chains.{IndexesAt, IsQuotaOf}
use Rattle.domain_standing.specs.Domain.{DomainNow, item_in}
use Rattle.standing_laws.specs.Slots.{StandsSlot}

-- a tag of the slot leads to the cell
abbrev pub IsTaggedBy : ℕ → DomainNow → CellAt → Type 0
IsTaggedBy number d at = (tag : Tag) × (cell_of d.pages (d.tags number) tag ≡ Some at)

-- a file of the slot has a page there
abbrev pub IsFilePageOf : ℕ → DomainNow → Files → Home → Type 0
IsFilePageOf number d files home = (at : CellAt) × (page : ℕ) × IsTaggedBy number d at
    × (place_in files at page ≡ At home)

-- so it has, or the page is one of the slot's tag directory, or of an index of one of its files
abbrev pub IsPageOfSlot : ℕ → DomainNow → Files → IndexesAt → Home → Type 0
IsPageOfSlot number d files indexes home = (has_home (d.tags number) home ≡ true)
    ⊎ IsFilePageOf number d files home
    ⊎ ((at : CellAt) × (place : ℕ) × IsTaggedBy number d at
    × (slice_get (indexes at) place ≡ Some home))

-- all of the slot is as it was: what the table says of it, its tag directory, the chains of its
-- files and of its quota cells, where its indexes stand, each of these pages, and the bytes of files
pub record KeepsSlot (number : ℕ) (d now : DomainNow) (files files_now : Files)
    (indexes indexes_now : IndexesAt) : Type 0 where
  pub item : item_in now number ≡ item_in d number
  pub tags : now.tags number ≡ d.tags number
  pub chains : (at : CellAt) → IsTaggedBy number d at → files_now at ≡ files at
  pub quotas : (at : CellAt) → IsQuotaOf d number at → files_now at ≡ files at
  pub homes : (at : CellAt) → IsTaggedBy number d at → indexes_now at ≡ indexes at
  pub pages : (home : Home) → IsPageOfSlot number d files indexes home
      → now.pages home ≡ d.pages home
  pub held : (home : Home) → IsPageOfSlot number d files indexes home → 1 ≤ home.vol
      → IsHeld d.space home.vol home.page → IsHeld now.space home.vol home.page
  pub bytes : (home : Home) → IsFilePageOf number d files home
      → now.contents home ≡ d.contents home

-- where a page keeps its bytes unless it changes, the original in each other slot stands for the
-- fileset for which it stood
abbrev pub OthersStand : ℕ → DomainNow → DomainNow → Type 0
OthersStand number d now =
    ((home : Home) → now.pages home ≡ d.pages home → now.contents home ≡ d.contents home)
    → (other : ℕ) → ¬ other ≡ number → (entry : FilesetEntry) (shape : FilesetShape)
    (fileset : FilesetSlot) → item_in d other ≡ Some (slot.Original entry)
    → StandsSlot d other entry shape fileset → StandsSlot now other entry shape fileset

-- a slot has the original, and had none of another name; the others have what they had
pub record PutsFileset (number : ℕ) (entry : FilesetEntry) (d now : DomainNow) : Type 0 where
  pub has : item_in now number ≡ Some (slot.Original entry)
  pub had : (item : SlotItem) → item_in d number ≡ Some item
      → IfSome (entry_of item) (λ (was : FilesetEntry). was.name ≡ entry.name)
  pub others : (other : ℕ) → ¬ other ≡ number → item_in now other ≡ item_in d other
