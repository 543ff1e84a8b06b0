use Rattle.std.proofs.Common.{◌<◌, ℕ}
use Rattle.cell_faults.specs.domain_layout.Reached.{Frame}
use Rattle.cell_faults.specs.Links.{AreLinks}
use Rattle.tag_faults.specs.Quotas.{IsWrongIn}
use Rattle.tag_faults.proofs.slots.has_wrong_slot.Given as goal

abbrev pub invariant-loop-number : goal.invariant-loop-number
invariant-loop-number g l =
    (frame : Frame) → AreLinks (g.M.MetaPages.pages l.pages) frame l.links → (number : ℕ) → number < l.number → ¬ IsWrongIn (g.M.MetaPages.pages l.pages) frame l.table number
