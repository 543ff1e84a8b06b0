use Rattle.no_faults.proofs.NoBitmaps.{no_bitmaps}
use Rattle.no_faults.proofs.pages.no_bitmap_fault.Goals as goal

pub returns : goal.returns
returns c = no_bitmaps
