-- Pages at which the rules of files look are there.
use Rattle.std.specs.Prelude.{◌≡◌, ℕ, List, Some, IsSome}
use Rattle.slot_files.specs.domain_base.declared.place.Home.{Home}
use Rattle.slot_files.specs.domain_base.declared.place.Kind.TheVariants.{Directory}
use Rattle.slot_files.specs.domain_base.declared.place.Tag.{Tag}
use Rattle.slot_files.specs.page_store.Pages.{Pages}
use Rattle.slot_files.specs.metadata_cells.Chain.{PlacedCell}
use Rattle.slot_files.specs.fileset_table.Table.{Table}
use Rattle.slot_files.specs.domain_layout.DirectoryRules.{Has}
use Rattle.slot_files.specs.domain_layout.Layout.{IsLayout, Layout}
use Rattle.slot_files.specs.domain_layout.Owners.{frame_of}
use Rattle.slot_files.specs.domain_layout.Reached.{Frame, IsWithin}
use Rattle.slot_files.specs.domain_layout.Seen.{SeenFile}
use Rattle.slot_files.specs.domain_layout.Looks.{IsOfDirectory}
use Rattle.slot_files.specs.sorted_sets.Members.{IsIn}
use Rattle.slot_files.specs.sorted_sets.declared.home_set.HomeSet.{HomeSet}
use Rattle.image_loading.specs.Indexes.{HasIndexes}

-- what was in a set is in it still
abbrev pub Grows : HomeSet → HomeSet → Type 0
Grows old new = (home : Home) → IsIn old home → IsIn new home

-- a set has the home of each page of a directory of the fileset in a slot that is a member's
abbrev pub HoldsDirectories : Pages → Frame → Table → ℕ → HomeSet → Type 0
HoldsDirectories pages frame table number set = (dir : Tag) (cells : List PlacedCell)
    (seen : SeenFile) → Has pages table number dir cells seen → seen.is.kind ≡ Directory
    → (page : ℕ) (home : Home) → seen.homes page ≡ Some home → IsWithin frame home
    → IsIn set home

-- pages are laid out as a domain's are
pub record IsLaidOut (pages : Pages) (frame : Frame) : Type 0 where
  pub layout : Layout
  pub is : frame_of layout ≡ frame
  pub laid : IsLayout pages layout

-- pages that are laid out so, and others at which each page of an index and of a directory is there
pub record BringsFiles (old new : Pages) (frame : Frame) : Type 0 where
  pub laid_out : IsLaidOut old frame
  pub indexes : HasIndexes new frame
  pub directories : (home : Home) → IsOfDirectory old frame home → IsSome (new home)
