-- The pages of a domain that was just made, but for those of label, anchors and log.
use Rattle.std.specs.Prelude.{◌≡◌, ◌+◌, ◌<◌, ℕ, nat_le, IsSomeAnd}
use Rattle.std.specs.FinSet.{contains}
use Rattle.domain_layout.specs.domain_base.declared.version.Version.{Version}
use Rattle.domain_layout.specs.free_space.VolumePages.{VolumePages}
use Rattle.domain_layout.specs.disk_label.FirstPages.{first_pages}
use Rattle.domain_layout.specs.page_store.Pages.{Pages}
use Rattle.domain_layout.specs.Reached.{Frame}
use Rattle.domain_layout.specs.NewDomain.{IsNewBitmap, IsNewCells, IsNewTablePage, firsts, on_first}
use Rattle.domain_making.specs.Making.{new_frame}
use Rattle.domain_making.specs.declared.pages.NewPages.{NewPages}

-- a map of this number of pages: those up to the last one are used, and no others
pub record IsUsedTo (pages last : ℕ) (map : VolumePages) : Type 0 where
  pub count : map.pages ≡ pages
  pub used : (page : ℕ) → contains map.used page ≡ nat_le page last

-- they are those of a domain of this version on a volume with this number of used pages
pub record AreNew (version : Version) (pages : ℕ) (new : NewPages) : Type 0 where
  pub bitmap : IsUsedTo pages (first_pages version pages).table new.bitmap
  pub cells : IsNewCells (new_frame version pages) new.cells
  pub table : IsNewTablePage new.table

-- the first pages of a new domain's bitmap are there, this number of them
abbrev pub HasNewBitmaps : Pages → Frame → ℕ → Type 0
HasNewBitmaps pages frame count = (number : ℕ) → number < count
    → IsSomeAnd (pages (on_first ((firsts frame).bitmap + number))) (IsNewBitmap frame number)
