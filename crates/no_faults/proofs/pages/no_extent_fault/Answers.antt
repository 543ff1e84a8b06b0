use Rattle.no_faults.proofs.NoExtents.{no_extents}
use Rattle.no_faults.proofs.pages.no_extent_fault.Goals as goal

pub returns : goal.returns
returns c = no_extents
