use Rattle.slot_files.specs.sorted_sets.Members.{IsIn}
use Rattle.slot_files.specs.page_ways.Frame.{frame_in}
use Rattle.domain_faults.proofs.FoundIndexes.{AreWrongBelow}
use Rattle.domain_faults.proofs.indexes.faults_of_indexes.Given as goal

abbrev pub invariant-loop-n : goal.invariant-loop-n
invariant-loop-n g l = AreWrongBelow (g.M.MetaPages.pages l.pages) (frame_in l.frame) l.tables.filesets (IsIn l.found) l.n
