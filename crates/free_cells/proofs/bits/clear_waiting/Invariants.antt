use Rattle.std.proofs.Common.{false, take}
use Rattle.free_space.specs.VolumeSpace.{is_among}
use Rattle.free_cells.proofs.Many.{GoesOn}
use Rattle.free_cells.proofs.bits.clear_waiting.Given as goal

abbrev pub invariant-loop-waiting : goal.invariant-loop-waiting
invariant-loop-waiting g l =
    GoesOn l.vol (is_among (take l.waiting-index l.list)) false (g.M.MetaPages.pages l.initial.pages) (g.M.MetaPages.pages l.pages)
    (g.M.MetaPages.room l.initial.pages) (g.M.MetaPages.room l.pages) (g.M.MetaPages.before l.initial.pages) (g.M.MetaPages.before l.pages)
