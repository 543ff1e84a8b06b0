use Rattle.index_row_faults.specs.page_ways.Frame.{frame_in}
use Rattle.slot_files.specs.Files.{IsInClone}
use Rattle.slot_files.proofs.AllFiles.{AreSoFar}
use Rattle.slot_files.proofs.slots.read_clone_files.Given as goal

abbrev pub invariant-loop-i : goal.invariant-loop-i
invariant-loop-i g l = AreSoFar (frame_in l.frame) (IsInClone (g.M.MetaPages.pages l.pages) l.own l.behind l.number) l.tags.items l.i l.files.items
