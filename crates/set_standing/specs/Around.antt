-- A domain that stands around the fileset in one of its slots, while calls change that.
use Rattle.std.specs.Prelude.{◌≡◌, ℕ, Some, None}
use Rattle.std.specs.Option.{option_and_then}
use Rattle.standing_laws.specs.domain_base.declared.place.CellAt.{CellAt}
use Rattle.standing_laws.specs.domain_base.declared.place.Home.{Home}
use Rattle.standing_laws.specs.domain_base.declared.place.Tag.{Tag}
use Rattle.standing_laws.specs.fileset_files.Files.{Chains}
use Rattle.standing_laws.specs.fileset_values.declared.command.Owner.{Owner}
use Rattle.standing_laws.specs.fileset_model.declared.fileset.FilesetSlot.{FilesetSlot}
use Rattle.standing_laws.specs.fileset_model.declared.fileset.Limits.{Limits}
use Rattle.standing_laws.specs.fileset_table.declared.slot.FilesetEntry.{FilesetEntry}
use Rattle.standing_laws.specs.fileset_table.declared.slot.SlotItem.TheVariants as slot
use Rattle.standing_laws.specs.release_list.Standing.{Files, source_at}
use Rattle.standing_laws.specs.release_steps.Calls.{StandsWell}
use Rattle.standing_laws.specs.release_steps.Tags.{start_of}
use Rattle.standing_laws.specs.domain_layout.Shape.{AreLimits, FilesetShape}
use Rattle.standing_laws.specs.domain_standing.Chains.{IndexesAt, no_files, no_indexes}
use Rattle.standing_laws.specs.domain_standing.Domain.{DomainNow, item_in}
use Rattle.standing_laws.specs.domain_standing.Holders.{Holder, Holds}
use Rattle.standing_laws.specs.Leads.{StandsBelow, fileset_now}
use Rattle.standing_laws.specs.SlotParents.{HaveParentsIn, StandsForSome}
use Rattle.standing_laws.specs.Slots.{StandsSlot}
use Rattle.standing_laws.specs.Sound.{StandsSound, StandsSoundBut}
use Rattle.set_standing.specs.Follow.{FilesFollow, Said}

-- a tag names the file that begins there
abbrev pub IsNamedIn : Chains → CellAt → Type 0
IsNamedIn chains at = (tag : Tag) × (option_and_then start_of (chains tag) ≡ Some at)

-- an original is in the slot of a domain that stands but for its filesets, its files are among the
-- domain's, no file of the domain is read through another, and it is as rules of pages ask beside;
-- but of the indexes of the slot's own files, which calls change, it is not asked what is in their
-- pages
pub record StandsAround (number : ℕ) (d : DomainNow) : Type 0 where
  pub entry : FilesetEntry
  pub original : item_in d number ≡ Some (slot.Original entry)
  pub files : Files
  pub indexes : IndexesAt
  pub below : StandsBelow d files indexes
  pub chains : Chains
  pub well : StandsWell number (fileset_now d number chains files)
  pub alone : (at : CellAt) → source_at files at ≡ None
  pub sound : StandsSoundBut (IsNamedIn chains) d files indexes

-- the page is one of the first pages of a volume
abbrev pub IsOfVolume : DomainNow → Home → Type 0
IsOfVolume d home = Holds d no_files no_indexes Holder.of_volume home

-- the same of what is in any slot, be it an original or what is being removed
pub record StandsAtSlot (number : ℕ) (d : DomainNow) : Type 0 where
  pub files : Files
  pub indexes : IndexesAt
  pub below : StandsBelow d files indexes
  pub chains : Chains
  pub well : StandsWell number (fileset_now d number chains files)
  pub alone : (at : CellAt) → source_at files at ≡ None
  pub sound : StandsSoundBut (IsNamedIn chains) d files indexes

-- all that is not of the slot is as it was: the frame and the table, the tags of other slots, what
-- they stand for and what their directories say of parents, and the first pages of volumes; and the
-- slot's own files keep what they have, its owners their limits, and its directories say what they
-- said or what was said of them
pub record StaysAround (said : Said) (number : ℕ) (d now : DomainNow) : Type 0 where
  pub frame : now.frame ≡ d.frame
  pub table : now.table ≡ d.table
  pub tags : (other : ℕ) → ¬ other ≡ number → now.tags other ≡ d.tags other
  pub slots : (other : ℕ) (entry : FilesetEntry) (shape : FilesetShape) (fileset : FilesetSlot)
      → ¬ other ≡ number → item_in d other ≡ Some (slot.Original entry)
      → StandsSlot d other entry shape fileset → StandsSlot now other entry shape fileset
  pub parents : (other : ℕ) → ¬ other ≡ number → StandsForSome other d → HaveParentsIn other d
      → HaveParentsIn other now
  pub volumes : (home : Home) → IsOfVolume d home → now.pages home ≡ d.pages home
  pub files : FilesFollow said number d now
  pub limits : (entry : FilesetEntry) (limits : Owner → Limits)
      → item_in d number ≡ Some (slot.Original entry) → AreLimits d.pages entry limits
      → AreLimits now.pages entry limits

-- and the domain stands with what is in the slot, as rules of pages ask of its indexes too, if they
-- did
abbrev pub GoesOnAtSlot : Said → (number : ℕ) → (d now : DomainNow) → StandsAtSlot number d → Type 0
GoesOnAtSlot said number d now at =
    (then : StandsAtSlot number now) × StaysAround said number d now
    × (StandsSound d at.files at.indexes → StandsSound now then.files then.indexes)

-- or around the original in it
abbrev pub GoesOnAround : Said → ℕ → DomainNow → DomainNow → Type 0
GoesOnAround said number d now = StandsAround number now × StaysAround said number d now

-- a page in which nothing is changed has the bytes that it had
abbrev pub BytesFollow : DomainNow → DomainNow → Type 0
BytesFollow d now =
    (home : Home) → now.pages home ≡ d.pages home → now.contents home ≡ d.contents home

-- nothing is changed but the slot's tags, pages, their bytes, free space and cells
pub record ChangesSlot (number : ℕ) (d now : DomainNow) : Type 0 where
  pub frame : now.frame ≡ d.frame
  pub table : now.table ≡ d.table
  pub list : now.list ≡ d.list
  pub tags : (other : ℕ) → ¬ other ≡ number → now.tags other ≡ d.tags other
