use Rattle.index_row_faults.specs.page_ways.Frame.{frame_in}
use Rattle.slot_files.specs.Files.{IsInOriginal}
use Rattle.slot_files.proofs.AllFiles.{AreSoFar}
use Rattle.slot_files.proofs.slots.read_original_files.Given as goal

abbrev pub invariant-loop-i : goal.invariant-loop-i
invariant-loop-i g l = AreSoFar (frame_in l.frame) (IsInOriginal (g.M.MetaPages.pages l.pages) l.dir) l.tags.items l.i l.files.items
