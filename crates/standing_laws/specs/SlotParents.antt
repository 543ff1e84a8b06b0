-- What the directories of one slot of a domain say of the ones in which they stand.
use Rattle.std.specs.Prelude.{◌≡◌, ℕ, false, List, None, Some}
use Rattle.domain_standing.specs.domain_base.declared.place.Kind.TheVariants.{Directory}
use Rattle.domain_standing.specs.domain_base.declared.place.Tag.{Tag}
use Rattle.domain_standing.specs.page_store.Bitfiles.{same_tag}
use Rattle.domain_standing.specs.extent_maps.declared.run.PagePlace.TheVariants.{Absent}
use Rattle.domain_standing.specs.metadata_cells.Chain.{PlacedCell}
use Rattle.domain_standing.specs.file_chains.Files.{places_of}
use Rattle.domain_standing.specs.fileset_files.Creation.{root_tag}
use Rattle.domain_standing.specs.fileset_files.Files.{AreFiles, Chains}
use Rattle.domain_standing.specs.fileset_files.State.{parent_of}
use Rattle.domain_standing.specs.fileset_model.declared.fileset.FilesetSlot.{FilesetSlot}
use Rattle.domain_standing.specs.fileset_table.declared.slot.FilesetEntry.{FilesetEntry}
use Rattle.domain_standing.specs.fileset_table.declared.slot.SlotItem.TheVariants as slot
use Rattle.domain_standing.specs.domain_layout.CellRules.{of_clone}
use Rattle.domain_standing.specs.domain_layout.DirectoryRules.{Has, HasWrongParent}
use Rattle.domain_standing.specs.domain_layout.Seen.{SeenFile}
use Rattle.domain_standing.specs.domain_layout.Shape.{FilesetShape}
use Rattle.domain_standing.specs.Domain.{DomainNow, item_in}
use Rattle.standing_laws.specs.Slots.{StandsSlot}

-- each says the one in which its row stands
abbrev pub HaveParentsIn : ℕ → DomainNow → Type 0
HaveParentsIn number d = (tag : Tag) (cells : List PlacedCell) (seen : SeenFile)
    → Has d.pages d.table number tag cells seen → seen.is.kind ≡ Directory
    → ¬ HasWrongParent d.pages d.frame d.table number tag cells

-- the slot has no clone, and an original in it stands for some fileset
pub record StandsForSome (number : ℕ) (d : DomainNow) : Type 0 where
  pub no_clone : of_clone (item_in d number) ≡ false
  pub each : (entry : FilesetEntry) → item_in d number ≡ Some (slot.Original entry)
      → (shape : FilesetShape) × (fileset : FilesetSlot)
      × StandsSlot d number entry shape fileset

-- an original has nothing but its root, which has no page, and says itself as the one in which it
-- stands
pub record HasOnlyRoot (number : ℕ) (d : DomainNow) : Type 0 where
  pub entry : FilesetEntry
  pub original : item_in d number ≡ Some (slot.Original entry)
  pub chains : Chains
  pub files : AreFiles number (d.tags number) d.pages chains
  pub root : List PlacedCell
  pub there : chains root_tag ≡ Some root
  pub others : (tag : Tag) → same_tag tag root_tag ≡ false → chains tag ≡ None
  pub no_page : (page : ℕ) → places_of root page ≡ Absent
  pub parent : parent_of root ≡ Some root_tag
