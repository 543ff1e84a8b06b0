use Rattle.std.proofs.Common.{take}
use Rattle.free_space.specs.Sound.{is_one}
use Rattle.free_cells.proofs.Many.{GoesOn}
use Rattle.free_cells.proofs.bits.mark_all.Given as goal

abbrev pub invariant-loop-page : goal.invariant-loop-page
invariant-loop-page g l =
    GoesOn l.vol (is_one (take l.page-index l.list)) l.is_used (g.M.MetaPages.pages l.initial.pages) (g.M.MetaPages.pages l.pages)
    (g.M.MetaPages.room l.initial.pages) (g.M.MetaPages.room l.pages) (g.M.MetaPages.before l.initial.pages) (g.M.MetaPages.before l.pages)
