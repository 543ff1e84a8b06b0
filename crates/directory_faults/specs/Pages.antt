-- Pages of directories that are no pages of rows.
use Rattle.std.specs.Prelude.{◌≡◌, ℕ, List, Option, Some, Contains}
use Rattle.fileset_shapes.specs.domain_base.declared.place.Home.{Home}
use Rattle.fileset_shapes.specs.domain_base.declared.place.Kind.TheVariants.{Directory}
use Rattle.fileset_shapes.specs.domain_base.declared.place.Tag.{Tag}
use Rattle.fileset_shapes.specs.page_store.Pages.{Pages}
use Rattle.fileset_shapes.specs.directory_pages.RowPage.{IsDirPage}
use Rattle.fileset_shapes.specs.fileset_table.Table.{Table}
use Rattle.fileset_shapes.specs.domain_layout.DirectoryRules.{IsDirectoryPage}
use Rattle.fileset_shapes.specs.domain_layout.Reached.{Frame, IsWithin}
use Rattle.directory_faults.specs.declared.there.FileThere.{FileThere}

-- a page that stands at a home of a member is no page of rows
pub record IsBadPage (pages : Pages) (frame : Frame) (home : Home) : Type 0 where
  pub within : IsWithin frame home
  pub bytes : List ℕ
  pub there : pages home ≡ Some bytes
  pub bad : ¬ IsDirPage bytes

-- and so is the page at one of these homes
abbrev pub IsBadAmong : Pages → Frame → List (Option Home) → Home → Type 0
IsBadAmong pages frame homes home = Contains homes (Some home) × IsBadPage pages frame home

-- and so is one of a directory
abbrev pub IsBadOf : Pages → Frame → FileThere → Home → Type 0
IsBadOf pages frame file home =
    (file.seen.is.kind ≡ Directory) × IsBadAmong pages frame file.seen.homes.items home

-- a page of a directory of the fileset in a slot is no page of rows
abbrev pub HasWrongRowPage : Pages → Frame → Table → ℕ → Home → Type 0
HasWrongRowPage pages frame table number home = (dir : Tag) × (page : ℕ) × (bytes : List ℕ)
    × IsDirectoryPage pages frame table number dir page home bytes × ¬ IsDirPage bytes
