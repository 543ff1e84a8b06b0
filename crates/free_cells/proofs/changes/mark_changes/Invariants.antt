use Rattle.free_cells.proofs.MarkVolumes.{MarksOn}
use Rattle.free_cells.proofs.changes.mark_changes.Given as goal

abbrev pub invariant-loop-number : goal.invariant-loop-number
invariant-loop-number g l =
    MarksOn l.space l.number (g.M.MetaPages.pages l.initial.pages) (g.M.MetaPages.pages l.pages)
    (g.M.MetaPages.room l.initial.pages) (g.M.MetaPages.room l.pages) (g.M.MetaPages.before l.initial.pages) (g.M.MetaPages.before l.pages)
