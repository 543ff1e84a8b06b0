-- A domain that stands: its pages, and what is kept in memory beside them, are those of filesets.
use Rattle.std.specs.Prelude.{◌≡◌, ◌*◌, ◌<◌, ◌≤◌, ◌↔◌, ℕ, true, List, Some, IsSomeAnd}
use Rattle.std.specs.FinMap.{get}
use Rattle.fileset_shapes.specs.domain_base.Version.{bitmap_pages}
use Rattle.fileset_shapes.specs.domain_base.declared.place.Kind.TheVariants.{Directory}
use Rattle.fileset_shapes.specs.domain_base.declared.place.Tag.{Tag}
use Rattle.fileset_shapes.specs.metadata_cells.Chain.{PlacedCell}
use Rattle.fileset_shapes.specs.free_space.Spaces.{IsHeld}
use Rattle.fileset_shapes.specs.log_ring.Homes.{IsMember, member_of}
use Rattle.fileset_shapes.specs.fileset_model.Filesets.{FilesetMap}
use Rattle.fileset_shapes.specs.fileset_table.declared.slot.FilesetEntry.{FilesetEntry}
use Rattle.fileset_shapes.specs.fileset_table.declared.slot.SlotItem.TheVariants as slot
use Rattle.fileset_shapes.specs.quota_book.Book.{Book}
use Rattle.fileset_shapes.specs.quota_book.Sums.{IsBookOf}
use Rattle.release_steps.specs.release_list.Standing.{Files}
use Rattle.domain_standing.specs.Marks.{HasBitmaps}
use Rattle.fileset_shapes.specs.free_cells.Marks.{is_marked}
use Rattle.fileset_shapes.specs.domain_layout.DirectoryRules.{Has, HasWrongParent}
use Rattle.fileset_shapes.specs.domain_layout.Seen.{SeenFile}
use Rattle.domain_standing.specs.Chains.{IndexesAt, StandChains}
use Rattle.domain_standing.specs.Domain.{DomainNow, item_in}
use Rattle.domain_standing.specs.Holders.{HoldsOwned}
use Rattle.domain_standing.specs.Rest.{SaysTheRest}
use Rattle.domain_standing.specs.Slots.{StandSlots}
use Rattle.domain_standing.specs.Tables.{StandTables}

-- a domain stands for these filesets
pub record StandsDomain (d : DomainNow) (all : FilesetMap) : Type 0 where
  pub tables : StandTables d
  pub files : Files
  pub indexes : IndexesAt
  pub chains : StandChains d files indexes
  pub owned : HoldsOwned d files indexes
  pub rest : SaysTheRest d files
  pub slots : StandSlots d all

-- ** Beside it, between two commands

-- each directory says the one in which its row stands
abbrev pub HaveParents : DomainNow → Type 0
HaveParents d = (number : ℕ) (tag : Tag) (cells : List PlacedCell) (seen : SeenFile)
    → Has d.pages d.table number tag cells seen → seen.is.kind ≡ Directory
    → ¬ HasWrongParent d.pages d.frame d.table number tag cells

-- a bit of a bitmap is 1 if and only if the page is used and does not wait, or is none of the
-- volume's
pub record IsMarkedBut (d : DomainNow) : Type 0 where
  pub there : HasBitmaps d.pages d.frame
  pub bits : (vol page : ℕ) → IsMember d.frame.anchor vol
      → page < (member_of d.frame.anchor vol).pages
      → (is_marked d.pages vol page ≡ true) ↔ IsHeld d.space vol page
  pub behind : (vol page : ℕ) → IsMember d.frame.anchor vol
      → (member_of d.frame.anchor vol).pages ≤ page
      → page < 65536 * bitmap_pages d.frame.version (member_of d.frame.anchor vol).pages
      → is_marked d.pages vol page ≡ true

-- the book of each slot is that of its fileset
abbrev pub AreBooksOf : (ℕ → Book) → DomainNow → FilesetMap → Type 0
AreBooksOf books d all = (number : ℕ) (entry : FilesetEntry)
    → item_in d number ≡ Some (slot.Original entry)
    → IsSomeAnd (get all entry.name) (λ fileset. IsBookOf (books number) fileset.tree)
