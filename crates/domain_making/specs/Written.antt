-- What was written to the first volume so far.
use Rattle.std.specs.Prelude.{◌≡◌, ◌*◌, ◌-◌, ℕ, false, List}
use Rattle.domain_layout.specs.domain_base.Limits.{page_bytes}
use Rattle.domain_layout.specs.domain_base.declared.version.Version.{Version}
use Rattle.domain_layout.specs.free_space.Bits.{ShowsMap}
use Rattle.domain_layout.specs.volume_disk.Disk.{Moment}
use Rattle.domain_layout.specs.volume_disk.Gate.{IsOpenAt}
use Rattle.domain_layout.specs.volume_disk.Image.{HasBytes, Image, IsIn, Places, page_at}
use Rattle.domain_layout.specs.disk_label.FirstPages.{label_page}
use Rattle.domain_layout.specs.disk_label.Label.{label_bytes}
use Rattle.domain_layout.specs.disk_label.declared.first_pages.FirstPages.{FirstPages}
use Rattle.domain_making.specs.declared.pages.NewPages.{NewPages}

-- all of the first volume is synced
abbrev pub IsFirstSynced : Moment → Type 0
IsFirstSynced moment = (k : ℕ) → moment.unsynced 1 k ≡ false

-- the label of the first volume is there
abbrev pub HasNewLabel : Version → ℕ → Image → Type 0
HasNewLabel version pages = HasBytes 1 (page_bytes * label_page) (label_bytes 1 pages version)

-- the pages from the bitmap to the table
abbrev pub IsOnPages : FirstPages → Places
IsOnPages firsts = IsIn 1 (page_bytes * 2) (page_bytes * (firsts.table - 1))

-- the label and the anchors
abbrev pub IsInFront : Places
IsInFront = IsIn 1 0 (page_bytes * 2)

-- the page of anchors, and everything after it up to the table
abbrev pub IsBehindLabel : FirstPages → Places
IsBehindLabel firsts = IsIn 1 page_bytes (page_bytes * firsts.table)

-- the pages of a new domain stand in their places, and the first gate of its log is closed
pub record HasNewPages (firsts : FirstPages) (new : NewPages) (image : Image) : Type 0 where
  pub bits : List ℕ
  pub shows : ShowsMap new.bitmap bits
  pub bitmap : HasBytes 1 (page_bytes * 2) bits image
  pub cells : page_at image 1 firsts.cells ≡ new.cells
  pub gate : ¬ IsOpenAt image 1 (page_bytes * firsts.log)
  pub table : page_at image 1 firsts.table ≡ new.table
