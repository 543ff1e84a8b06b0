-- Runs that say that pages stand where none may, and bitmaps that do not say which pages are owned.
use Rattle.std.specs.Prelude.{◌≡◌, ◌⊎◌, ◌+◌, ◌*◌, ◌<◌, ℕ, List, Some, Contains}
use Rattle.tag_faults.specs.domain_base.Version.{bitmap_pages}
use Rattle.tag_faults.specs.domain_base.declared.place.Home.{Home}
use Rattle.tag_faults.specs.page_store.Pages.{Pages}
use Rattle.tag_faults.specs.log_ring.Homes.{IsMember, member_of}
use Rattle.tag_faults.specs.metadata_cells.CellPage.{home_of}
use Rattle.tag_faults.specs.domain_layout.Reached.{Frame, IsWithin}
use Rattle.tag_faults.specs.free_space.CheckBits.{IsWrongPage}
use Rattle.tag_faults.specs.cell_chains.Runs.{HasPageIn, IsPageOf, IsSaid, IsShared, home_in, on}
use Rattle.tag_faults.specs.cell_chains.declared.run.FileRun.{FileRun}
use Rattle.page_faults.specs.Owned.{IsTaken}

-- a page of a run is none of a member's
abbrev pub IsOutside : Frame → FileRun → Type 0
IsOutside frame run = (page : ℕ) × IsPageOf run page × ¬ IsWithin frame (home_in run page)

-- a page of a run is another's, too: of a table, of label, anchors, bitmap or log, or of a file
abbrev pub IsAnothers : Frame → List Home → List FileRun → FileRun → Type 0
IsAnothers frame homes runs run = (page : ℕ) × IsPageOf run page
    × (IsTaken frame homes (home_in run page) ⊎ IsShared runs run page)

-- so is one on a member
abbrev pub IsAnothersOn : ℕ → Frame → List Home → List FileRun → FileRun → Type 0
IsAnothersOn vol frame homes runs run = (run.row.vol ≡ vol) × IsMember frame.anchor vol
    × IsAnothers frame homes runs run

-- on one with a number below another
abbrev pub IsAnothersBelow : ℕ → Frame → List Home → List FileRun → FileRun → Type 0
IsAnothersBelow number frame homes runs run = (vol : ℕ) × (vol < number)
    × IsAnothersOn vol frame homes runs run

-- a run stands on a volume, and a page of it at a number that is such
abbrev pub IsMet : ℕ → (ℕ → Type 0) → FileRun → Type 0
IsMet vol Is run = (run.row.vol ≡ vol) × HasPageIn Is run

-- some run of a cell on a page that stands at a home is so
abbrev pub HasRun : List FileRun → (FileRun → Type 0) → Home → Type 0
HasRun runs Wrong home =
    (run : FileRun) × Contains runs run × (home_of run.at ≡ home) × Wrong run

-- a run is outside or another's
abbrev pub IsWrongRun : Frame → List Home → List FileRun → FileRun → Type 0
IsWrongRun frame homes runs run =
    IsOutside frame run ⊎ IsAnothersOn run.row.vol frame homes runs run

-- a page is one of label, anchors, bitmap or log, of a table, or said to be a file's
abbrev pub IsOwnedBy : Frame → List Home → List FileRun → Home → Type 0
IsOwnedBy frame homes runs home = IsTaken frame homes home ⊎ IsSaid runs home

-- the page with a number of a volume's bitmap has a wrong bit, by which pages are owned
pub record HasWrongBits (pages : Pages) (frame : Frame) (Owned : ℕ → Type 0) (vol : ℕ) (home : Home)
    (number : ℕ) : Type 0 where
  pub at : home ≡ on vol (2 + number)
  pub page : List ℕ
  pub there : pages home ≡ Some page
  pub wrong : IsWrongPage page Owned (member_of frame.anchor vol).pages (65536 * number)

-- so has some page of it
abbrev pub HasWrongBitmap : Pages → Frame → (ℕ → Type 0) → ℕ → Home → Type 0
HasWrongBitmap pages frame Owned vol home = (number : ℕ)
    × (number < bitmap_pages frame.version (member_of frame.anchor vol).pages)
    × HasWrongBits pages frame Owned vol home number

-- so has some member's bitmap, where the pages are owned that are of label, anchors, bitmap or log,
-- among homes, or said to be files'
abbrev pub IsWrongBitmapOf : Pages → Frame → List Home → List FileRun → Home → ℕ → Type 0
IsWrongBitmapOf pages frame homes runs home vol = IsMember frame.anchor vol
    × HasWrongBitmap pages frame (λ n. IsOwnedBy frame homes runs (on vol n)) vol home

-- the page is one of a member's bitmap and has a wrong bit
abbrev pub IsWrongBitmap : Pages → Frame → List Home → List FileRun → Home → Type 0
IsWrongBitmap pages frame homes runs home =
    (vol : ℕ) × IsWrongBitmapOf pages frame homes runs home vol
