-- A domain in which one file of a slot changes, and no name.
use Rattle.std.specs.Prelude.{◌≡◌, ℕ, false, Some}
use Rattle.std.specs.Option.{option_and_then, option_map}
use Rattle.standing_laws.specs.domain_base.declared.place.Home.{Home}
use Rattle.standing_laws.specs.domain_base.declared.place.Kind.TheVariants.{File}
use Rattle.standing_laws.specs.domain_base.declared.place.Tag.{Tag}
use Rattle.standing_laws.specs.page_store.Bitfiles.{Bitfiles, same_tag}
use Rattle.standing_laws.specs.extent_maps.declared.run.PagePlace.TheVariants.{At}
use Rattle.standing_laws.specs.fileset_files.Files.{AreFiles, Chains, place_at}
use Rattle.standing_laws.specs.fileset_files.State.{FileState, state_of}
use Rattle.standing_laws.specs.stored_set.Sets.{StandsAsSet}
use Rattle.standing_laws.specs.fileset_values.declared.command.Owner.{Owner}
use Rattle.standing_laws.specs.fileset_model.declared.fileset.FilesetSlot.{FilesetSlot}
use Rattle.standing_laws.specs.fileset_model.declared.fileset.Limits.{Limits}
use Rattle.standing_laws.specs.fileset_table.declared.slot.FilesetEntry.{FilesetEntry}
use Rattle.standing_laws.specs.fileset_table.declared.slot.SlotItem.TheVariants as slot
use Rattle.standing_laws.specs.domain_layout.Shape.{AreLimits, FilesetShape}
use Rattle.standing_laws.specs.domain_standing.Domain.{DomainNow, item_in}
use Rattle.standing_laws.specs.Leads.{IsLiveOf}
use Rattle.standing_laws.specs.SlotParents.{HaveParentsIn, StandsForSome}
use Rattle.standing_laws.specs.Slots.{StandsSlot}
use Rattle.set_standing.specs.Around.{IsOfVolume, StandsAround}

-- all that is not of the slot is as it was, and so is where the pages of tag directories stand, and
-- its owners' limits
pub record StaysBeside (number : ℕ) (d now : DomainNow) : Type 0 where
  pub frame : now.frame ≡ d.frame
  pub table : now.table ≡ d.table
  pub tags : (n : ℕ) → now.tags n ≡ d.tags n
  pub slots : (other : ℕ) (entry : FilesetEntry) (shape : FilesetShape) (fileset : FilesetSlot)
      → ¬ other ≡ number → item_in d other ≡ Some (slot.Original entry)
      → StandsSlot d other entry shape fileset → StandsSlot now other entry shape fileset
  pub parents : (other : ℕ) → ¬ other ≡ number → StandsForSome other d → HaveParentsIn other d
      → HaveParentsIn other now
  pub volumes : (home : Home) → IsOfVolume d home → now.pages home ≡ d.pages home
  pub limits : (entry : FilesetEntry) (limits : Owner → Limits)
      → item_in d number ≡ Some (slot.Original entry) → AreLimits d.pages entry limits
      → AreLimits now.pages entry limits

-- each other tag names what it named, and the tag what the change makes of what it was
pub record ChangesState (tag : Tag) (how : FileState → FileState) (chains chains_now : Chains)
    : Type 0 where
  pub others : (t : Tag) → same_tag t tag ≡ false → chains_now t ≡ chains t
  pub own : option_and_then state_of (chains_now tag)
      ≡ option_map how (option_and_then state_of (chains tag))

-- the slot's files keep their bytes, but for these pages of a tag's
pub record KeepsBytesBut (tag : Tag) (may : ℕ → Type 0) (chains : Chains) (d now : DomainNow)
    : Type 0 where
  pub others : (t : Tag) (page : ℕ) (home : Home) → same_tag t tag ≡ false
      → place_at chains t page ≡ At home → now.contents home ≡ d.contents home
  pub own : (page : ℕ) (home : Home) → ¬ may page → place_at chains tag page ≡ At home
      → now.contents home ≡ d.contents home

-- the file that a tag of the slot names has changed so, with the bytes of these pages, and no name:
-- the domain stands around the slot, beside which all stays, each page of another file is as it was,
-- and the set that it shows is the same
pub record ChangesOneFile (number : ℕ) (tag : Tag) (how : FileState → FileState) (may : ℕ → Type 0)
    (chains : Chains) (d now : DomainNow) : Type 0 where
  pub around : StandsAround number now
  pub beside : StaysBeside number d now
  pub chains_now : Chains
  pub are : AreFiles number (now.tags number) now.pages chains_now
  pub state : ChangesState tag how chains chains_now
  pub live : IsLiveOf File (chains_now tag)
  pub pages : (t : Tag) (page : ℕ) (home : Home) → same_tag t tag ≡ false
      → place_at chains t page ≡ At home → now.pages home ≡ d.pages home
  pub bytes : KeepsBytesBut tag may chains d now
  pub set : (shown : Bitfiles) → StandsAsSet number (d.tags number) d.space d.cells d.pages shown
      → StandsAsSet number (now.tags number) now.space now.cells now.pages shown
